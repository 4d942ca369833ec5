-- One turn over lent lists: what a record leaves in each of them, and what is printed. Assumes nothing.
use Rattle.std.specs.Prelude.{ℕ, ◌*◌, ◌≡◌, cond, List, [], ◌++◌, length, take, set, replicate, Some, None, Ok, Err}
use Rattle.std.proofs.lemmas.List.Edits.{sets}
use Rattle.theory.specs.Lists.{over}
use Rattle.scope.specs.Tables.{Index, index}
use Rattle.scope.specs.Calls.{build_end}
use Rattle.reading.specs.declared.Session.{Session}
use Rattle.reading.specs.declared.Code.{Code}
use Rattle.reading.specs.declared.Question.{Question}
use Rattle.reading.specs.declared.Record.TheVariants.{Head, Entry, Ask}
use Rattle.reading.specs.Records.{Next, record_of, chunk_of, rest_of, ends}
use Rattle.lines.specs.Lines.{bad_line}
use Rattle.transcript.specs.declared.Catalogue.{Catalogue}
use Rattle.transcript.specs.declared.Lists.{Lists}
use Rattle.transcript.specs.declared.Desk.{Desk}
use Rattle.transcript.specs.declared.Turned.{Turned}
use Rattle.reading.specs.State.{number_of, next_of}
use Rattle.transcript.specs.Opening.{opening, ending}
use Rattle.transcript.specs.Questions.{shape_of, words_of, Reply, reply}
use Rattle.transcript.specs.Transcript.{fresh}

abbrev pub catalogue : List ℕ → List ℕ → List ℕ → List ℕ → Catalogue
catalogue stars codes starts ids = record { stars = stars; codes = codes; starts = starts; ids = ids }

abbrev pub desk : Catalogue → Lists → Desk
desk c l = record { catalogue = c; lists = l }

-- the places that entries have filled, with the tables
abbrev pub index_of : Session → Catalogue → Index
index_of session c = index (shape_of session) (take session.entries c.stars) (take (session.entries * session.words) c.codes) c.starts c.ids

-- the code of entry e behind those before it
abbrev pub code_kept : ℕ → Code → List ℕ → List ℕ
code_kept e code l = sets l (length (words_of code) * e) (words_of code)

-- a catalogue with one entry more
abbrev pub with_entry : Session → ℕ → Code → Catalogue → Catalogue
with_entry session star code c = catalogue (set c.stars session.entries star) (code_kept session.entries code c.codes) c.starts c.ids

-- a catalogue with its tables, which the first question has built
abbrev pub tabled : Session → Catalogue → Catalogue
tabled session c =
    let built = build_end (index_of session c) in
    catalogue c.stars c.codes (cond session.asked c.starts built.starts) (cond session.asked c.ids built.ids)

abbrev pub reply_to : Session → Desk → Question → List ℕ → Reply
reply_to session d question s = reply (number_of session) (index_of session (tabled session d.catalogue)) d.lists question s

-- the lists after the record at the front of s
abbrev pub desk_after : Session → Desk → List ℕ → Next → Desk
desk_after session d s (Ok None) = d
desk_after session d s (Err f) = d
desk_after session d s (Ok (Some (Head w m))) = d
desk_after session d s (Ok (Some (Entry star code))) = desk (with_entry session star code d.catalogue) d.lists
desk_after session d s (Ok (Some (Ask question))) = desk (tabled session d.catalogue) (reply_to session d question s).lists

-- and what it prints
abbrev pub text_of : Session → Desk → List ℕ → Next → List ℕ
text_of session d s (Ok None) = ending session
text_of session d s (Err f) = bad_line (number_of session)
text_of session d s (Ok (Some (Head w m))) = []
text_of session d s (Ok (Some (Entry star code))) = []
text_of session d s (Ok (Some (Ask question))) = opening session ++ (reply_to session d question s).text

-- a turn's answer, and every list at the end; the text stands at the front of `out`
pub record TurnEnd : Type 0 where
  pub answer : Turned
  pub desk : Desk
  pub out : List ℕ

abbrev pub turns : Turned → Desk → List ℕ → TurnEnd
turns r d out = record { answer = r; desk = d; out = out }

-- the turn at the record rec at the front of s
abbrev pub turn_at : Session → Desk → List ℕ → List ℕ → Next → TurnEnd
turn_at session d out s rec =
    turns (record { next = cond (ends rec) None (Some (next_of session rec)); written = length (text_of session d s rec) })
    (desk_after session d s rec) (over (text_of session d s rec) out)

unfoldable pub turn_end : Session → Desk → List ℕ → List ℕ → TurnEnd
turn_end session d out s = turn_at session d out s (record_of session s)

-- ---- a run of the program: one turn after another, each on the next record by itself; what a turn leaves in `out` is printed

pub data Ran : Session → Desk → List ℕ → List ℕ → Type 0 where
  last : {session : Session} {d e : Desk} {s written : List ℕ} {r : Turned} (out : List ℕ) → turns r e written ≡ turn_end session d out (chunk_of s)
      → r.next ≡ None → Ran session d s (take r.written written)
  more : {session next : Session} {d e : Desk} {s written text : List ℕ} {r : Turned} (out : List ℕ) → turns r e written ≡ turn_end session d out (chunk_of s)
      → r.next ≡ Some next → Ran next e (rest_of s) text → Ran session d s (take r.written written ++ text)

-- the lists that the program begins with
abbrev pub empty : Desk
empty = desk (catalogue (replicate 512 0) (replicate 1024 0) (replicate 4112 0) (replicate 16384 0)) fresh
