-- Records: length (2 bytes, the body's only), kind (2 bytes), body, all little-endian. Assumes nothing.
use Rattle.std.specs.Prelude.{ℕ, ◌+◌, ◌*◌, ◌/◌, ◌%◌, Bool, true, false, not, cond, ◌&&◌, ◌||◌, List, [], ◌∷◌, length, get_or, take, drop, ltb, leb, eqb, Option, Some, None, Result, Ok, Err}
use Rattle.scope.specs.declared.Unit.{Unit}
use Rattle.scope.specs.declared.Unit.TheVariants as unit
use Rattle.reading.specs.Bytes.{number_at}
use Rattle.reading.specs.declared.Session.{Session}
use Rattle.reading.specs.declared.Bad.{Bad}
use Rattle.reading.specs.declared.Front.{Front}
use Rattle.reading.specs.declared.Kind.{Kind}
use Rattle.reading.specs.declared.Kind.TheVariants as kind
use Rattle.reading.specs.declared.Code.{Code}
use Rattle.reading.specs.declared.Code.TheVariants.{One, Two}
use Rattle.reading.specs.declared.Question.TheVariants.{Nearest, Within, Verdict, Sky}
use Rattle.reading.specs.declared.Record.{Record}
use Rattle.reading.specs.declared.Record.TheVariants.{Head, Entry, Ask}

-- what `?` does: the first bad answer, or else the next one
infixl 10 ◌>>=◌
abbrev pub ◌>>=◌ : {A B : Type 0} → Result A Bad → (A → Result B Bad) → Result B Bad
(Ok x) >>= f = f x
(Err e) >>= f = Err e

abbrev pub bad : {A : Type 0} → Result A Bad
bad = Err (record {})

-- ---- what stands at the front of the bytes s that are left: a body is at most 8,193 bytes, and the input may cut it short

abbrev pub headed : List ℕ → Result (Option Front) Bad
headed s =
    cond (ltb 8193 (number_at 2 s 0)) bad
    (cond (ltb (length s) (4 + number_at 2 s 0)) bad
    (Ok (Some (record { length = number_at 2 s 0; kind = number_at 2 s 2 }))))

abbrev pub front_of : List ℕ → Result (Option Front) Bad
front_of s = cond (eqb (length s) 0) (Ok None) (cond (ltb (length s) 4) bad (headed s))

-- the length of the body that the first 4 bytes announce; 0 where there are fewer or it is too long
unfoldable pub wanted : List ℕ → ℕ
wanted s = cond (ltb (length s) 4) 0 (cond (ltb 8193 (number_at 2 s 0)) 0 (number_at 2 s 0))

-- the first record by itself, or what there is of it; and what comes after it
unfoldable pub chunk_of : List ℕ → List ℕ
chunk_of s = take (4 + wanted s) s

unfoldable pub rest_of : List ℕ → List ℕ
rest_of s = drop (4 + wanted s) s

-- ---- the body b of each kind, a code being w words

-- the code from place at on
abbrev pub code_at : ℕ → List ℕ → ℕ → Code
code_at w b at = cond (eqb w 2) (Two (number_at 8 b at ∷ number_at 8 b (at + 8) ∷ [])) (One (number_at 8 b at ∷ []))

-- the code that ends a body, behind at bytes
abbrev pub code_behind : ℕ → ℕ → List ℕ → Result Code Bad
code_behind at w b = cond (eqb (length b) (at + 8 * w)) (Ok (code_at w b at)) bad

-- a head: w is 1 or 2, and m from q/8 to q/4
abbrev pub head_of : ℕ → ℕ → Result Record Bad
head_of w m = cond ((eqb w 1 || eqb w 2) && (leb (64 * w / 8) m && leb m (64 * w / 4))) (Ok (Head w m)) bad

-- 1 head: w, s, one byte each; s 8, so that m is q/8
abbrev pub head_in : List ℕ → Result Record Bad
head_in b = cond (eqb (length b) 2 && eqb (get_or b 1 0) 8) (head_of (get_or b 0 0) (64 * get_or b 0 0 / 8)) bad

-- 7 head: w, m, one byte each
abbrev pub tables_head_in : List ℕ → Result Record Bad
tables_head_in b = cond (eqb (length b) 2) (head_of (get_or b 0 0) (get_or b 1 0)) bad

-- 2 entry: star 4 bytes, code
abbrev pub entry_in : ℕ → List ℕ → Result Record Bad
entry_in w b = code_behind 4 w b >>= λ code. Ok (Entry (number_at 4 b 0) code)

-- 3 nearest: k 2 bytes, code
abbrev pub nearest_in : ℕ → List ℕ → Result Record Bad
nearest_in w b = code_behind 2 w b >>= λ code. Ok (Ask (Nearest (number_at 2 b 0) code))

-- 4 within: r 2 bytes, code
abbrev pub within_in : ℕ → List ℕ → Result Record Bad
within_in w b = code_behind 2 w b >>= λ code. Ok (Ask (Within (number_at 2 b 0) code))

-- 5 verdict: t, g 2 bytes each, code
abbrev pub verdict_in : ℕ → List ℕ → Result Record Bad
verdict_in w b = code_behind 4 w b >>= λ code. Ok (Ask (Verdict (number_at 2 b 0) (number_at 2 b 2) code))

-- 6 sky: unit byte, 1 degrees or 2 radians, then 16 bytes for each star
abbrev pub unit_of : ℕ → Result Unit Bad
unit_of byte = cond (eqb byte 1) (Ok unit.Degrees) (cond (eqb byte 2) (Ok unit.Radians) bad)

abbrev pub sky_in : List ℕ → Result Record Bad
sky_in b = cond (eqb (length b % 16) 1) (unit_of (get_or b 0 0) >>= λ unit. Ok (Ask (Sky unit (length b / 16)))) bad

abbrev pub kind_of : ℕ → Result Kind Bad
kind_of number =
    cond (eqb number 1) (Ok kind.Head)
    (cond (eqb number 2) (Ok kind.Entry)
    (cond (eqb number 3) (Ok kind.Nearest)
    (cond (eqb number 4) (Ok kind.Within)
    (cond (eqb number 5) (Ok kind.Verdict)
    (cond (eqb number 6) (Ok kind.Sky)
    (cond (eqb number 7) (Ok kind.TablesHead) bad))))))

abbrev pub body_in : Kind → ℕ → List ℕ → Result Record Bad
body_in kind.Head w b = head_in b
body_in kind.Entry w b = entry_in w b
body_in kind.Nearest w b = nearest_in w b
body_in kind.Within w b = within_in w b
body_in kind.Verdict w b = verdict_in w b
body_in kind.Sky w b = sky_in b
body_in kind.TablesHead w b = tables_head_in b

-- ---- order and number: record 1 is the head, entries come next, questions last; 512 entries and 65,535 records at most

abbrev pub takes : Session → Kind → Bool
takes session kind.Head = eqb session.words 0
takes session kind.Entry = not (eqb session.words 0) && (not session.asked && ltb session.entries 512)
takes session kind.Nearest = not (eqb session.words 0)
takes session kind.Within = not (eqb session.words 0)
takes session kind.Verdict = not (eqb session.words 0)
takes session kind.Sky = not (eqb session.words 0)
takes session kind.TablesHead = eqb session.words 0

unfoldable pub meaning_of : Session → ℕ → List ℕ → Result Record Bad
meaning_of session number b = kind_of number >>= λ kind. cond (takes session kind) (body_in kind session.words b) bad

-- a record, None where the input ends, or bad
abbrev pub Next : Type 0
Next = Result (Option Record) Bad

abbrev pub by_front : Session → List ℕ → Option Front → Next
by_front session s None = Ok None
by_front session s (Some front) =
    cond (leb 65535 session.records) bad (meaning_of session front.kind (take front.length (drop 4 s)) >>= λ rec. Ok (Some rec))

-- what the record at the front of s means to a session
unfoldable pub record_of : Session → List ℕ → Next
record_of session s = front_of s >>= by_front session s

-- the run ends with the input, and with a bad record
abbrev pub ends : Next → Bool
ends (Err e) = true
ends (Ok None) = true
ends (Ok (Some rec)) = false
