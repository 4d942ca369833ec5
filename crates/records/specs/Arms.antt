-- What the functions under `turn` leave: the tables, and a question's lines and lists. Assumes nothing.
use Rattle.std.specs.Prelude.{ℕ, ◌+◌, ◌*◌, ◌≤◌, ◌≡◌, List, length, Some, Result, Ok}
use Rattle.lines.specs.Wrote.{Wrote, Put}
use Rattle.lines.specs.Lines.{near, within, judged_line}
use Rattle.scope.specs.declared.Refusal.{Refusal}
use Rattle.scope.specs.declared.Report.{Report}
use Rattle.scope.specs.Calls.{SearchEnd, VerdictEnd, verdict_end}
use Rattle.reading.specs.declared.Session.{Session}
use Rattle.reading.specs.declared.Code.{Code}
use Rattle.reading.specs.declared.Record.{Record}
use Rattle.reading.specs.declared.Question.{Question}
use Rattle.reading.specs.declared.Question.TheVariants.{Nearest, Within, Verdict, Sky}
use Rattle.reading.specs.State.{number_of}
use Rattle.transcript.specs.declared.Desk.{Desk}
use Rattle.transcript.specs.declared.TheConstants.{ENTRIES, TEXT}
use Rattle.transcript.specs.Questions.{lists, asks, Reply}
use Rattle.transcript.specs.Turn.{desk, index_of, desk_after, text_of}
use Rattle.search.specs.declared.Sought.{Sought}
use Rattle.search.specs.declared.Sought.TheVariants as sought

-- the stars of a sky question stand in a record of len bytes
abbrev pub StarsFit : Question → ℕ → Type 0
StarsFit (Nearest k code) len = Unit {0}
StarsFit (Within r code) len = Unit {0}
StarsFit (Verdict t g code) len = Unit {0}
StarsFit (Sky unit n) len = (n ≤ ENTRIES) × (5 + 16 * n ≤ len)

abbrev pub word_of : Sought → List ℕ
word_of (sought.Nearest k) = near
word_of (sought.Within r) = within

-- a search has listed its entries on the desk
pub record Listed (d : Desk) (end : SearchEnd) (found : Result Report Refusal) (d' : Desk) : Type 0 where
  pub answer : found ≡ end.answer
  pub desk : d' ≡ desk d.catalogue (lists end.marks end.entries end.distances)

-- a reply's text was written from place at on, and its lists stand
pub record Replied (d : Desk) (y : Reply) (out : List ℕ) (at : ℕ) (d' : Desk) (out' : List ℕ) (r : ℕ) : Type 0 where
  pub desk : d' ≡ desk d.catalogue y.lists
  pub text : Wrote out at y.text out' r
  pub room : r ≤ TEXT

abbrev pub verdict_on : Session → ℕ → ℕ → Code → Desk → VerdictEnd
verdict_on session t g code d = verdict_end (asks (index_of session d.catalogue) d.lists code).question d.lists.marks t g

-- a verdict over the desk's tables
pub record Judging (session : Session) (t g : ℕ) (code : Code) (d : Desk) (out : List ℕ) (at : ℕ) (d' : Desk) (out' : List ℕ) (r : ℕ) : Type 0 where
  pub desk : d' ≡ desk d.catalogue (lists (verdict_on session t g code d).marks d.lists.entries d.lists.distances)
  pub text : Put 64 out at (judged_line (number_of session) (verdict_on session t g code d).answer) out' r

-- a record was taken: what it leaves on the desk, and prints
pub record Taken (session : Session) (rec : Record) (s : List ℕ) (d : Desk) (out : List ℕ) (d' : Desk) (out' : List ℕ) (r : ℕ) : Type 0 where
  pub desk : d' ≡ desk_after session d s (Ok (Some rec))
  pub text : Wrote out 0 (text_of session d s (Ok (Some rec))) out' r
  pub room : r ≤ length out
