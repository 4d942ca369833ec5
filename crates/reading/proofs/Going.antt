-- What is known where there is a record: the session's count, the record's bounds, and what its kind asks. Assumes nothing.
use mathlib.Core.Path.{◌≡◌, refl, ap, sym, subst, ◌∙◌}
use mathlib.Core.Bool.{Bool, true, false, not, ◌&&◌, ◌||◌}
use mathlib.Core.List.{List, [], ◌∷◌}
use mathlib.Core.Logic.{◌⊎◌, inl, inr, ⊎_elim}
use Prim.Native.Nat.{ℕ, ◌+◌, ◌*◌, ◌/◌, ◌%◌, ◌≤◌, ◌<◌}
use native.Mathlib.Omega.{arith}
use lib.Dec.{eqb, leb}
use lib.ListN.{length, get_or, take, drop, length-take, length-drop}
use lib.Ieee.{binary64, of_bits}
use borrow.Author.Tests.{leb-true, leb-false, ltb-true, eqb-true, eqb-false}
use Rattle.std.specs.Prelude.{Option, Some, None, Ok, Err}
use Rattle.theory.proofs.Tests.{both_ways, or-true, and_left, and_right}
use Rattle.theory.proofs.Lists.{tab_cong}
use Rattle.scope.specs.declared.Unit.{Unit}
use Rattle.reading.specs.Bytes.{number_at}
use Rattle.reading.specs.Records.{◌>>=◌, front_of, by_front, record_of, kind_of, takes, meaning_of, head_of, code_at, code_behind, unit_of, body_in, Next, wanted, chunk_of, ends}
use Rattle.reading.specs.Offsets.{angles_at, across_of, up_of}
use Rattle.reading.specs.declared.Session.{Session}
use Rattle.reading.specs.declared.Front.{Front}
use Rattle.reading.specs.declared.Kind.{Kind}
use Rattle.reading.specs.declared.Kind.TheVariants as kind
use Rattle.reading.specs.declared.Code.{Code}
use Rattle.reading.specs.declared.Question.{Question}
use Rattle.reading.specs.declared.Question.TheVariants.{Nearest, Within, Verdict, Sky}
use Rattle.reading.specs.declared.Record.{Record}
use Rattle.reading.specs.declared.Record.TheVariants.{Head, Entry, Ask}
use Rattle.reading.proofs.Cases.{step, made, kept, passed, whole, wanted_is}
use Rattle.reading.proofs.Cutting.{number-take}

-- the record is whole
pub record Going (session : Session) (s : List ℕ) (rec : Record) : Type 0 where
  pub few : session.records < 65535
  pub short : number_at 2 s 0 ≤ 8193
  pub fits : 4 + number_at 2 s 0 ≤ length s
  pub means : meaning_of session (number_at 2 s 2) (take (number_at 2 s 0) (drop 4 s)) ≡ Ok rec

front_goes : (session : Session) (s : List ℕ) (rec : Record) (f : Option Front) → front_of s ≡ Ok f → by_front session s f ≡ Ok (Some rec) → Going session s rec
front_goes session s rec None e h = absurd (cc)
front_goes session s rec (Some front) e h =
    let w = whole s front e in
    let m = meaning_of session front.kind (take front.length (drop 4 s)) in
    let (few, r) = passed (leb 65535 session.records) _ _ h in
    let (x, is, same) = made m (λ (r : Record). Some r) _ r in
    let one : x ≡ rec = cc in
    record {
      few = leb-false 65535 session.records few;
      short = w.short;
      fits = w.fits;
      means = (λ i. meaning_of session (w.kind i) (take (w.body i) (drop 4 s))) ∙ is ∙ ap (λ (r : Record). Ok r) one;
    }

pub goes : (session : Session) (s : List ℕ) (rec : Record) → record_of session s ≡ Ok (Some rec) → Going session s rec
unfolding record_of
goes session s rec h = let (f, e, g) = step (front_of s) (by_front session s) (Some rec) h in front_goes session s rec f e g

-- what does not end the run is a record
pub some_record : (r : Next) → ends r ≡ false → (rec : Record) × (r ≡ Ok (Some rec))
some_record (Err e) h = both_ways h
some_record (Ok None) h = both_ways h
some_record (Ok (Some rec)) h = (rec, refl)

-- ---- what each kind asks of the session

-- kind 1's head says what kind 7's says with m = q/8
pub same_head : (session : Session) (w : ℕ) → meaning_of session 1 (w ∷ 8 ∷ []) ≡ meaning_of session 7 (w ∷ 64 * w / 8 ∷ [])
unfolding meaning_of
same_head session w = refl

-- a record of a kind that may stand here
pub record Placed (session : Session) (b : List ℕ) (rec : Record) (kind : Kind) : Type 0 where
  pub may : takes session kind ≡ true
  pub body : body_in kind session.words b ≡ Ok rec

pub placed : (session : Session) (number : ℕ) (b : List ℕ) (rec : Record) → meaning_of session number b ≡ Ok rec → (kind : Kind) × Placed session b rec kind
unfolding meaning_of
placed session number b rec h =
    let (kind, _, g) = step (kind_of number) _ rec h in
    let (may, body) = kept (takes session kind) _ rec g in
    (kind, record { may = may; body = body })

not-true : (t : Bool) → not t ≡ true → t ≡ false
not-true true h = both_ways (sym h)
not-true false h = refl

some_words : {n : ℕ} → not (eqb n 0) ≡ true → n ≡ 0 → ⊥
some_words {n} h = eqb-false n 0 (not-true (eqb n 0) h)

-- w is 1 or 2, and m from q/8 to q/4
abbrev Headed : ℕ → ℕ → Type 0
Headed w m = ((w ≡ 1) ⊎ (w ≡ 2)) × (8 * w ≤ m) × (m ≤ 16 * w)

-- the stars of a sky question fill its body
abbrev Filled : List ℕ → Question → Type 0
Filled b (Nearest k code) = Prim.Unit {0}
Filled b (Within r code) = Prim.Unit {0}
Filled b (Verdict t g code) = Prim.Unit {0}
Filled b (Sky unit n) = length b ≡ 16 * n + 1

abbrev Fits : Session → List ℕ → Record → Type 0
Fits session b (Head w m) = (session.words ≡ 0) × Headed w m
Fits session b (Entry star code) = ((session.words ≡ 0 → ⊥) × (session.asked ≡ false) × (session.entries < 512)) × (code ≡ code_at session.words b 4)
Fits session b (Ask q) = (session.words ≡ 0 → ⊥) × Filled b q

module _ (session : Session) (b : List ℕ) (rec : Record) where
  head-Fits : (w m : ℕ) → eqb session.words 0 ≡ true → head_of w m ≡ Ok rec → Fits session b rec
  head-Fits w m z h =
      let words = eqb w 1 || eqb w 2 in
      let low = leb (64 * w / 8) m in
      let high = leb m (64 * w / 4) in
      let (t, e) = kept (words && (low && high)) _ _ h in
      let both = and_right words (low && high) t in
      let l = leb-true (64 * w / 8) m (and_left low high both) in
      let u = leb-true m (64 * w / 4) (and_right low high both) in
      let one : (w ≡ 1) ⊎ (w ≡ 2) = ⊎_elim (λ a. inl (eqb-true w 1 a)) (λ a. inr (eqb-true w 2 a)) (or-true (eqb w 1) (eqb w 2) (and_left words (low && high) t)) in
      let is : Head w m ≡ rec = cc in
      subst (Fits session b) is (eqb-true _ _ z, (one, omega arith, omega arith))

  ask-Fits : (at : ℕ) (q : Code → Question) → ((code : Code) → Filled b (q code)) → not (eqb session.words 0) ≡ true
      → (code_behind at session.words b >>= λ code. Ok (Ask (q code))) ≡ Ok rec → Fits session b rec
  ask-Fits at q full z h =
      let (code, _, is) = made (code_behind at session.words b) _ _ h in
      subst (Fits session b) is (some_words z, full code)

  kind_fits : (kind : Kind) → Placed session b rec kind → Fits session b rec
  kind_fits kind.Head p = let (t, h) = kept (eqb (length b) 2 && eqb (get_or b 1 0) 8) _ _ p.body in head-Fits (get_or b 0 0) (64 * get_or b 0 0 / 8) p.may h
  kind_fits kind.TablesHead p = let (t, h) = kept (eqb (length b) 2) _ _ p.body in head-Fits (get_or b 0 0) (get_or b 1 0) p.may h
  kind_fits kind.Entry p =
      let (code, behind, is) = made (code_behind 4 session.words b) _ _ p.body in
      let (_, read) = kept (eqb (length b) (4 + 8 * session.words)) _ _ behind in
      let some = and_left (not (eqb session.words 0)) _ p.may in
      let open_ = and_right (not (eqb session.words 0)) _ p.may in
      subst (Fits session b) is
      ((some_words some, not-true _ (and_left (not session.asked) _ open_), ltb-true _ _ (and_right (not session.asked) _ open_)), cc)
  kind_fits kind.Nearest p = ask-Fits 2 (λ code. Nearest (number_at 2 b 0) code) (λ _. tt) p.may p.body
  kind_fits kind.Within p = ask-Fits 2 (λ code. Within (number_at 2 b 0) code) (λ _. tt) p.may p.body
  kind_fits kind.Verdict p = ask-Fits 4 (λ code. Verdict (number_at 2 b 0) (number_at 2 b 2) code) (λ _. tt) p.may p.body
  kind_fits kind.Sky p =
      let (one, h) = kept (eqb (length b % 16) 1) _ _ p.body in
      let (unit, _, is) = made (unit_of (get_or b 0 0)) _ _ h in
      let whole : length b % 16 ≡ 1 = eqb-true _ _ one in
      let full : length b ≡ 16 * (length b / 16) + 1 = omega arith in
      subst (Fits session b) is (some_words p.may, full)

-- ---- the same of the record at the front of s

module _ (session : Session) (s : List ℕ) where
  fits : (rec : Record) → record_of session s ≡ Ok (Some rec) → Fits session (take (number_at 2 s 0) (drop 4 s)) rec
  fits rec e =
      let (kind, p) = placed session _ _ rec (goes session s rec e).means in
      kind_fits session _ rec kind p

  pub head_first : (w m : ℕ) → record_of session s ≡ Ok (Some (Head w m)) → (session.words ≡ 0) × (((w ≡ 1) ⊎ (w ≡ 2)) × (8 * w ≤ m) × (m ≤ 16 * w))
  head_first w m e = fits (Head w m) e

  pub entry_next : (star : ℕ) (code : Code) → record_of session s ≡ Ok (Some (Entry star code))
      → (session.words ≡ 0 → ⊥) × (session.asked ≡ false) × (session.entries < 512)
  entry_next star code e = (fits (Entry star code) e).0

  -- its code stands behind its star, in the session's words
  pub entry_code : (star : ℕ) (code : Code) → record_of session s ≡ Ok (Some (Entry star code)) → code ≡ code_at session.words (take (number_at 2 s 0) (drop 4 s)) 4
  entry_code star code e = (fits (Entry star code) e).1

  pub ask_last : (q : Question) → record_of session s ≡ Ok (Some (Ask q)) → session.words ≡ 0 → ⊥
  ask_last q e = (fits (Ask q) e).0

  -- a sky record's stars are 512 at most, and stand in the record
  pub sky-length : (u : Unit) (n : ℕ) → record_of session s ≡ Ok (Some (Ask (Sky u n))) → number_at 2 s 0 ≡ 16 * n + 1
  sky-length u n e =
      let g = goes session s (Ask (Sky u n)) e in
      let l = (fits (Ask (Sky u n)) e).1 in
      let t = length-take (number_at 2 s 0) (drop 4 s) in
      let d = length-drop 4 s in
      omega (arith, g.fits)

  pub sky_fits : (u : Unit) (n : ℕ) → record_of session s ≡ Ok (Some (Ask (Sky u n))) → (n ≤ 512) × (5 + 16 * n ≤ length s)
  sky_fits u n e =
      let g = goes session s (Ask (Sky u n)) e in
      let l = sky-length u n e in
      (omega (arith, g.short), omega (arith, g.fits))

  -- the angles of a sky record by itself are those in the input
  angles_cut : (at n : ℕ) → at + 16 * n ≤ 4 + wanted s + 8 → angles_at (chunk_of s) at n ≡ angles_at s at n
  unfolding chunk_of
  angles_cut at n h =
      tab_cong (λ i. of_bits binary64 (number_at 8 (take (4 + wanted s) s) (at + 16 * i))) (λ i. of_bits binary64 (number_at 8 s (at + 16 * i))) n
      (λ i l. ap (of_bits binary64) (number-take 8 s (at + 16 * i) (4 + wanted s) (omega arith)))

  pub offsets_cut : (u : Unit) (n : ℕ) → record_of session s ≡ Ok (Some (Ask (Sky u n))) → (across_of (chunk_of s) n ≡ across_of s n) × (up_of (chunk_of s) n ≡ up_of s n)
  unfolding across_of up_of
  offsets_cut u n e =
      let g = goes session s (Ask (Sky u n)) e in
      let l = sky-length u n e in
      let w = wanted_is s (omega (arith, g.fits)) g.short in
      (angles_cut 5 n (omega arith), angles_cut 13 n (omega arith))
