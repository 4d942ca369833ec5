-- What a question prints after its record number, and leaves in the lists lent to the searches. Assumes nothing.
use Rattle.std.specs.Prelude.{ℕ, List}
use Rattle.scope.specs.declared.Shape.{Shape}
use Rattle.scope.specs.Tables.{Index}
use Rattle.scope.specs.Walk.{question}
use Rattle.scope.specs.Calls.{Asked, asked, SearchEnd, VerdictEnd, nearest_end, within_end, verdict_end, sky_answer}
use Rattle.reading.specs.declared.Session.{Session}
use Rattle.reading.specs.declared.Code.{Code}
use Rattle.reading.specs.declared.Code.TheVariants.{One, Two}
use Rattle.reading.specs.declared.Question.{Question}
use Rattle.reading.specs.declared.Question.TheVariants.{Nearest, Within, Verdict, Sky}
use Rattle.reading.specs.Offsets.{across_of, up_of}
use Rattle.transcript.specs.declared.Lists.{Lists}
use Rattle.lines.specs.Lines.{near, within, found_lines, judged_line, sky_line}

-- a session's shape: the head's w and m
abbrev pub shape_of : Session → Shape
shape_of session = record { w = session.words; m = session.tables }

-- the words of a code
abbrev pub words_of : Code → List ℕ
words_of (One words) = words
words_of (Two words) = words

-- the lists lent to a search
abbrev pub lists : List ℕ → List ℕ → List ℕ → Lists
lists marks entries distances = record { marks = marks; entries = entries; distances = distances }

-- the question of a code, with the lists
abbrev pub asks : Index → Lists → Code → Asked
asks x l code = asked (question x (words_of code)) l.marks l.entries l.distances

-- what is printed, and the lists at the end
pub record Reply : Type 0 where
  pub text : List ℕ
  pub lists : Lists

abbrev pub searched : List ℕ → ℕ → List ℕ → SearchEnd → Reply
searched word number stars end =
    record {
      text = found_lines word number end.answer stars end.entries end.distances;
      lists = lists end.marks end.entries end.distances;
    }

abbrev pub judged_as : ℕ → Lists → VerdictEnd → Reply
judged_as number l end = record { text = judged_line number end.answer; lists = lists end.marks l.entries l.distances }

-- x is the catalogue with its tables, s the question's record
unfoldable pub reply : ℕ → Index → Lists → Question → List ℕ → Reply
reply number x l (Nearest k code) s = searched near number x.stars (nearest_end (asks x l code) k)
reply number x l (Within r code) s = searched within number x.stars (within_end (asks x l code) r)
reply number x l (Verdict t g code) s = judged_as number l (verdict_end (asks x l code).question l.marks t g)
reply number x l (Sky unit n) s = record { text = sky_line number (sky_answer unit (across_of s n) (up_of s n)); lists = l }
