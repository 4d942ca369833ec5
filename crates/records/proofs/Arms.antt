-- From what the searches and the sky maker promise to what a turn leaves. Assumes nothing.
use mathlib.Core.Path.{◌≡◌, refl, ap, sym, ◌∙◌}
use mathlib.Core.List.{List, ◌++◌}
use Prim.Native.Nat.{ℕ, ◌+◌, ◌≤◌}
use native.Mathlib.Omega.{arith}
use lib.ListN.{length, take, drop, length-take}
use lib.Ieee.{Float}
use lib.Seq.{sets-eq}
use Rattle.std.specs.Prelude.{Option, Some, Result, Ok}
use Rattle.theory.specs.Lists.{over}
use Rattle.theory.proofs.Lists.{take-over, length-tab}
use Rattle.scope.specs.Tables.{n}
use Rattle.scope.specs.Calls.{sky_answer, Asked, nearest_end, within_end, search_end}
use Rattle.scope.specs.declared.Refusal.{Refusal}
use Rattle.scope.specs.declared.Report.{Report}
use Rattle.scope.specs.declared.Unit.{Unit}
use Rattle.reading.specs.declared.Code.{Code}
use Rattle.reading.specs.declared.Session.{Session}
use Rattle.reading.specs.declared.Question.{Question}
use Rattle.reading.specs.declared.Question.TheVariants.{Nearest, Within, Verdict, Sky}
use Rattle.reading.specs.declared.Record.{Record}
use Rattle.reading.specs.declared.Record.TheVariants.{Head, Entry, Ask}
use Rattle.reading.specs.Records.{Next, record_of}
use Rattle.reading.specs.Offsets.{angles_at, across_of, up_of}
use Rattle.reading.specs.State.{number_of, Room}
use Rattle.reading.proofs.Going.{entry_next, sky_fits}
use Rattle.lines.specs.Lines.{answers_of, found_lines, sky_line}
use Rattle.lines.specs.Wrote.{Wrote, Put}
use Rattle.lines.proofs.Writing.{wrote_is, wrote_more}
use Rattle.transcript.specs.Opening.{opening}
use Rattle.transcript.specs.Questions.{asks, searched, Reply, reply}
use Rattle.transcript.specs.Turn.{desk, index_of, tabled, desk_after, text_of, turns, turn_at, turn_end}
use Rattle.transcript.specs.declared.Catalogue.{Catalogue}
use Rattle.transcript.specs.declared.Desk.{Desk}
use Rattle.transcript.specs.declared.TheConstants.{ENTRIES, TEXT}
use Rattle.transcript.proofs.Replies.{nearest_few, within_few}
use Rattle.records.specs.Arms.{StarsFit, word_of, Listed, Replied, Judging, Taken}
use Rattle.search.specs.declared.Sought.{Sought}
use Rattle.search.specs.declared.Sought.TheVariants as sought
use Rattle.search.specs.Sought.{sought_end}

-- a search lists no more entries than there are
pub few : (s : Sought) (c : Asked) → answers_of (sought_end s c).answer ≤ n c.question.index
unfolding nearest_end within_end search_end
few (sought.Nearest k) c = omega (arith, nearest_few c k)
few (sought.Within r) c = within_few c r

pub short : (s : Sought) → length (word_of s) ≤ 8
short (sought.Nearest k) = omega arith
short (sought.Within r) = omega arith

module _ (session : Session) (which : Sought) (code : Code) {d d' : Desk} {f : Result Report Refusal} (l : Listed d (sought_end which (asks (index_of session d.catalogue) d.lists code)) f d') where
  pub most : length d'.catalogue.stars ≡ ENTRIES → answers_of f ≤ ENTRIES
  most h =
      omega (
        arith,
        ap answers_of l.answer,
        few which (asks (index_of session d.catalogue) d.lists code),
        length-take session.entries d.catalogue.stars,
        ap (λ (x : Desk). length x.catalogue.stars) l.desk,
      )

  pub listed : {word : List ℕ} {number room : ℕ} {stars out : List ℕ} {at : ℕ} {out' : List ℕ} {r : ℕ} → word ≡ word_of which → number ≡ number_of session
      → stars ≡ take session.entries d'.catalogue.stars → Put room out at (found_lines word number f stars d'.lists.entries d'.lists.distances) out' r → r ≤ TEXT
      → Replied d (searched (word_of which) (number_of session) (take session.entries d.catalogue.stars) (sought_end which (asks (index_of session d.catalogue) d.lists code))) out at d' out' r
  listed p q e w room =
      let kept = e ∙ ap (λ (x : Desk). take session.entries x.catalogue.stars) l.desk in
      record {
        desk = l.desk;
        text = wrote_is (λ i. found_lines (p i) (q i) (l.answer i) (kept i) (l.desk i).lists.entries (l.desk i).lists.distances) w.wrote;
        room = room;
      }

-- ---- a question answered

-- what is printed and left where the question q is asked over the desk's tables
abbrev pub reply_on : Session → Desk → Question → List ℕ → Reply
reply_on session d q s = reply (number_of session) (index_of session d.catalogue) d.lists q s

pub answered : (session : Session) (d : Desk) (q : Question) (s : List ℕ) {x : Catalogue} {d' : Desk} {out out₁ : List ℕ} {at : ℕ} {out' : List ℕ} {r : ℕ}
    → x ≡ tabled session d.catalogue → Put 64 out 0 (opening session) out₁ at → Replied (desk x d.lists) (reply_on session (desk x d.lists) q s) out₁ at d' out' r
    → TEXT ≤ length out → Taken session (Ask q) s d out d' out' r
answered session d q s e p w roomy =
    record {
      desk = w.desk ∙ (λ i. desk (e i) (reply_on session (desk (e i) d.lists) q s).lists);
      text = wrote_more p.wrote (wrote_is (λ i. (reply_on session (desk (e i) d.lists) q s).text) w.text);
      room = omega (arith, w.room);
    }

module _ (session : Session) (d : Desk) (s : List ℕ) {d' : Desk} {out : List ℕ} {at : ℕ} {out' : List ℕ} {r : ℕ} where
  pub nearest_replied : (k : ℕ) (code : Code)
      → Replied d (searched (word_of (sought.Nearest k)) (number_of session) (index_of session d.catalogue).stars (sought_end (sought.Nearest k) (asks (index_of session d.catalogue) d.lists code))) out at d' out' r
      → Replied d (reply_on session d (Nearest k code) s) out at d' out' r
  unfolding reply
  nearest_replied k code w = w

  pub within_replied : (k : ℕ) (code : Code)
      → Replied d (searched (word_of (sought.Within k)) (number_of session) (index_of session d.catalogue).stars (sought_end (sought.Within k) (asks (index_of session d.catalogue) d.lists code))) out at d' out' r
      → Replied d (reply_on session d (Within k code) s) out at d' out' r
  unfolding reply
  within_replied k code w = w

  pub verdict_replied : (t g : ℕ) (code : Code) → Judging session t g code d out at d' out' r → at ≤ 64
      → Replied d (reply_on session d (Verdict t g code) s) out at d' out' r
  unfolding reply
  verdict_replied t g code w h = record { desk = w.desk; text = w.text.wrote; room = omega (arith, w.text.short) }

module _ (session : Session) (d : Desk) (s : List ℕ) {out : List ℕ} {at : ℕ} {out' : List ℕ} {r : ℕ} where
  pub sky_replied : (unit : Unit) (n : ℕ) → Put 64 out at (sky_line (number_of session) (sky_answer unit (across_of s n) (up_of s n))) out' r → at ≤ 64
      → Replied d (reply_on session d (Sky unit n) s) out at d out' r
  unfolding reply
  sky_replied unit n w h = record { desk = refl; text = w.wrote; room = omega (arith, w.short) }

-- ---- the stars of a sky record

pub angles_front : (s : List ℕ) (at n : ℕ) (l old : List Float) → l ≡ over (angles_at s at n) old → take n l ≡ angles_at s at n
angles_front s at n l old e = ap (take n) e ∙ take-over (angles_at s at n) old n (length-tab _ n)

pub stars_fit : (session : Session) (s : List ℕ) (q : Question) → record_of session s ≡ Ok (Some (Ask q)) → StarsFit q (length s)
stars_fit session s (Nearest k code) e = tt
stars_fit session s (Within r code) e = tt
stars_fit session s (Verdict t g code) e = tt
stars_fit session s (Sky unit n) e = sky_fits session s unit n e

-- ---- a turn, from its parts

pub room : (session : Session) (s : List ℕ) (rec : Record) → record_of session s ≡ Ok (Some rec) → Room session rec
room session s (Head w m) e = tt
room session s (Entry star code) e = (entry_next session s star code e).2
room session s (Ask q) e = tt

pub turn_is : (session : Session) (d : Desk) (out s : List ℕ) (rec : Next) {next : Option Session} {d' : Desk} {out' : List ℕ} {p : ℕ} → record_of session s ≡ rec
    → next ≡ (turn_at session d out s rec).answer.next → d' ≡ desk_after session d s rec
    → Wrote out 0 (text_of session d s rec) out' p → p ≤ length out → turns (record { next = next; written = p }) d' out' ≡ turn_end session d out s
unfolding turn_end
turn_is session d out s rec e next desk-is w room =
    let text = text_of session d s rec in
    let none : 0 + length text ≡ length text = omega arith in
    let out-is : _ ≡ over text out = w.list ∙ sets-eq text out 0 (omega (arith, w.place)) ∙ ap (λ (k : ℕ). text ++ drop k out) none in
    let count = w.place ∙ none in
    (λ i. turns (record { next = next i; written = count i }) (desk-is i) (out-is i)) ∙ ap (turn_at session d out s) (sym e)
