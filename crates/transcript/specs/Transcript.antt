-- The whole text of a session, as a function of the whole input. Assumes nothing.
use Rattle.std.specs.Prelude.{ℕ, zero, suc, cond, List, [], ◌∷◌, ◌++◌, replicate, Some, None, Ok, Err}
use Rattle.scope.specs.declared.Shape.{Shape}
use Rattle.scope.specs.Tables.{Index, index}
use Rattle.scope.specs.Calls.{build_end}
use Rattle.reading.specs.declared.Session.{Session}
use Rattle.reading.specs.declared.Record.TheVariants.{Head, Entry, Ask}
use Rattle.reading.specs.Records.{Next, record_of, rest_of, ends}
use Rattle.lines.specs.Lines.{bad_line}
use Rattle.reading.specs.State.{start_of, number_of, next_of}
use Rattle.transcript.specs.Opening.{opening, ending}
use Rattle.transcript.specs.Questions.{shape_of, words_of, lists, reply}
use Rattle.transcript.specs.declared.Lists.{Lists}

-- the catalogue with the tables that the builder writes; the lists have room for 512 entries with w = 2, whatever m a head names
unfoldable pub built : Shape → List ℕ → List ℕ → Index
built sh stars codes =
    let x = index sh stars codes (replicate 4112 0) (replicate 16384 0) in
    index sh stars codes (build_end x).starts (build_end x).ids

-- each question is asked with lists of zeros: 8 words of marks, answer lists of 512 places
abbrev pub fresh : Lists
fresh = lists (replicate 8 0) (replicate 512 0) (replicate 512 0)

-- what the record at the front of s prints; stars and codes are the entries' so far
abbrev pub text_in : Session → List ℕ → List ℕ → List ℕ → Next → List ℕ
text_in session stars codes s (Ok None) = ending session
text_in session stars codes s (Err f) = bad_line (number_of session)
text_in session stars codes s (Ok (Some (Head w m))) = []
text_in session stars codes s (Ok (Some (Entry star code))) = []
text_in session stars codes s (Ok (Some (Ask question))) =
    opening session ++ (reply (number_of session) (built (shape_of session) stars codes) fresh question s).text

-- the entries with one more
abbrev pub stars_with : List ℕ → Next → List ℕ
stars_with stars (Ok None) = stars
stars_with stars (Err f) = stars
stars_with stars (Ok (Some (Head w m))) = stars
stars_with stars (Ok (Some (Entry star code))) = stars ++ star ∷ []
stars_with stars (Ok (Some (Ask question))) = stars

abbrev pub codes_with : List ℕ → Next → List ℕ
codes_with codes (Ok None) = codes
codes_with codes (Err f) = codes
codes_with codes (Ok (Some (Head w m))) = codes
codes_with codes (Ok (Some (Entry star code))) = codes ++ words_of code
codes_with codes (Ok (Some (Ask question))) = codes

-- what is printed from here on, in at most k records
unfoldable pub printed : ℕ → Session → List ℕ → List ℕ → List ℕ → List ℕ
printed zero session stars codes s = []
printed (suc k) session stars codes s =
    text_in session stars codes s (record_of session s)
    ++ cond (ends (record_of session s)) []
    (printed k (next_of session (record_of session s)) (stars_with stars (record_of session s)) (codes_with codes (record_of session s)) (rest_of s))

-- no session goes on for longer: record 65,536 is bad
unfoldable pub transcript : List ℕ → List ℕ
transcript s = printed 65536 start_of [] [] s
