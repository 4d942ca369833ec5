-- Every run of turns prints the transcript, every input has such a run, and a run ends. Assumes nothing.
use mathlib.Core.Path.{◌≡◌, refl, ap, ap₂, sym, subst, ◌∙◌}
use mathlib.Core.Bool.{Bool, true, false, cond}
use mathlib.Core.List.{List, [], ◌++◌, append-nil}
use mathlib.Core.Logic.{◌⊎◌, inl, inr, ⊎_elim}
use Rattle.std.specs.Prelude.{Option, Some, None, Ok, Err}
use Prim.Native.Nat.{ℕ, zero, suc, ◌+◌, ◌-◌, ◌≤◌, ◌<◌}
use native.Mathlib.Omega.{arith}
use lib.ListN.{length, take, drop, length-append}
use Rattle.theory.specs.Lists.{over}
use Rattle.theory.proofs.Tests.{both_ways}
use Rattle.theory.proofs.Lists.{take-over}
use Rattle.reading.specs.declared.Session.{Session}
use Rattle.reading.specs.declared.Question.{Question}
use Rattle.reading.specs.declared.Question.TheVariants.{Nearest, Within, Verdict, Sky}
use Rattle.reading.specs.declared.Record.TheVariants.{Head, Entry, Ask}
use Rattle.reading.specs.Records.{Next, record_of, chunk_of, rest_of, ends}
use Rattle.reading.proofs.Cutting.{cut}
use Rattle.reading.proofs.Going.{goes, some_record, offsets_cut}
use Rattle.transcript.specs.declared.Desk.{Desk}
use Rattle.transcript.specs.declared.Turned.{Turned}
use Rattle.reading.specs.State.{start_of, number_of, next_of}
use Rattle.transcript.specs.Opening.{opening}
use Rattle.transcript.specs.Questions.{Reply, reply}
use Rattle.transcript.specs.Transcript.{text_in, stars_with, codes_with, printed, transcript}
use Rattle.transcript.specs.Turn.{desk, index_of, tabled, desk_after, text_of, TurnEnd, turns, turn_at, turn_end, Ran, last, more, empty}
use Rattle.transcript.proofs.Linking.{Linked, linked_start, same_line, linked_on}

-- ---- a turn on a record by itself is the turn on it in the input

module _ (session : Session) (d : Desk) (out s : List ℕ) where
  reply_cut : (q : Question) → record_of session s ≡ Ok (Some (Ask q))
      → reply (number_of session) (index_of session (tabled session d.catalogue)) d.lists q (chunk_of s) ≡ reply (number_of session) (index_of session (tabled session d.catalogue)) d.lists q s
  unfolding reply
  reply_cut (Nearest k code) e = refl
  reply_cut (Within r code) e = refl
  reply_cut (Verdict t g code) e = refl
  reply_cut (Sky unit n) e =
      let (p, q) = offsets_cut session s unit n e in
      rw (p, q)

  at_cut : (rec : Next) → record_of session s ≡ rec → turn_at session d out (chunk_of s) rec ≡ turn_at session d out s rec
  at_cut (Ok None) e = refl
  at_cut (Err f) e = refl
  at_cut (Ok (Some (Head w m))) e = refl
  at_cut (Ok (Some (Entry star code))) e = refl
  at_cut (Ok (Some (Ask q))) e =
      ap (λ (y : Reply).
      turns (record { next = Some (next_of session (Ok (Some (Ask q)))); written = length (opening session ++ y.text) })
      (desk (tabled session d.catalogue) y.lists) (over (opening session ++ y.text) out))
      (reply_cut q e)

  pub turn_cut : turn_end session d out (chunk_of s) ≡ turn_end session d out s
  unfolding turn_end
  turn_cut = ap (turn_at session d out (chunk_of s)) (cut session s) ∙ at_cut (record_of session s) refl

-- ---- a turn that does not end the run has one record more

counted : (session : Session) (rec : Next) → ends rec ≡ false → (next_of session rec).records ≡ number_of session
counted session (Ok None) h = both_ways h
counted session (Err f) h = both_ways h
counted session (Ok (Some (Head w m))) h = refl
counted session (Ok (Some (Entry star code))) h = refl
counted session (Ok (Some (Ask q))) h = refl

pub goes_on : (session : Session) (s : List ℕ) → ends (record_of session s) ≡ false
    → (session.records < 65535) × ((next_of session (record_of session s)).records ≡ session.records + 1)
goes_on session s h =
    let (rec, is) = some_record (record_of session s) h in
    let g = goes session s rec is in
    let e = counted session (record_of session s) h in
    (g.few, omega (arith, g.few))

-- what a turn's contract says of its answer
pub next_is : (session : Session) (d : Desk) (out s : List ℕ) {r : Turned} {e : Desk} {written : List ℕ} → turns r e written ≡ turn_end session d out s
    → r.next ≡ cond (ends (record_of session s)) None (Some (next_of session (record_of session s)))
unfolding turn_end
next_is session d out s h = ap (λ (t : TurnEnd). t.answer.next) h

none_over : (t : Bool) (x : Session) → cond t None (Some x) ≡ None → t ≡ true
none_over true x h = refl
none_over false x h = absurd (cc)

some_on : (t : Bool) (x n : Session) → cond t None (Some x) ≡ Some n → (t ≡ false) × (x ≡ n)
some_on true x n h = absurd (cc)
some_on false x n h = (refl, cc)

module _ (session : Session) (d : Desk) (out s : List ℕ) {r : Turned} {e : Desk} {written : List ℕ} (turn : turns r e written ≡ turn_end session d out s) where
  turn_over : r.next ≡ None → ends (record_of session s) ≡ true
  turn_over h = none_over _ _ (sym (next_is session d out s turn) ∙ h)

  turn_on : {n : Session} → r.next ≡ Some n → (ends (record_of session s) ≡ false) × (next_of session (record_of session s) ≡ n)
  turn_on {n} h = some_on _ _ n (sym (next_is session d out s turn) ∙ h)

-- so the loop ends: the count goes up, and no higher than 65,535
pub less_left : (session : Session) (d : Desk) (out s : List ℕ) {r : Turned} {e : Desk} {written : List ℕ} {n : Session} → turns r e written ≡ turn_end session d out s
    → r.next ≡ Some n → (session.records < 65535) × (n.records ≡ session.records + 1)
less_left session d out s t h =
    let (going, is) = turn_on session d out s t h in
    let (few, next) = goes_on session s going in
    (few, ap (λ (x : Session). x.records) (sym is) ∙ next)

-- and a turn writes no more than its list holds
pub text_fits : (session : Session) (d : Desk) (out s : List ℕ) {r : Turned} {e : Desk} {written : List ℕ} → turns r e written ≡ turn_end session d out s
    → r.written ≤ length written
unfolding turn_end
text_fits session d out s t =
    let text = text_of session d s (record_of session s) in
    omega (
      arith,
      ap (λ (x : TurnEnd). x.answer.written) t,
      ap (λ (x : TurnEnd). length x.out) t,
      length-append text (drop (length text) out),
    )

-- ---- every run prints the transcript

module _ (session : Session) (d : Desk) (out s : List ℕ) where
  printed-text : {r : Turned} {e : Desk} {written : List ℕ} → turns r e written ≡ turn_end session d out (chunk_of s)
      → take r.written written ≡ text_of session d s (record_of session s)
  unfolding turn_end
  printed-text h =
      let t = h ∙ turn_cut session d out s in
      ap₂ take (ap (λ (x : TurnEnd). x.answer.written) t) (ap (λ (x : TurnEnd). x.out) t)
      ∙ take-over (text_of session d s (record_of session s)) out _ refl

module _ (k : ℕ) (session : Session) (stars codes s : List ℕ) where
  printed_last : ends (record_of session s) ≡ true → printed (suc k) session stars codes s ≡ text_in session stars codes s (record_of session s)
  unfolding printed
  printed_last h = rw h (append-nil _)

  printed_more : ends (record_of session s) ≡ false
      → printed (suc k) session stars codes s
      ≡ text_in session stars codes s (record_of session s)
      ++ printed k (next_of session (record_of session s)) (stars_with stars (record_of session s)) (codes_with codes (record_of session s)) (rest_of s)
  unfolding printed
  printed_more h = rw h

link_next : (session : Session) (d : Desk) (out s stars codes : List ℕ) {r : Turned} {e : Desk} {written : List ℕ} {n : Session} → turns r e written ≡ turn_end session d out s
    → next_of session (record_of session s) ≡ n → Linked (next_of session (record_of session s)) (desk_after session d s (record_of session s)) stars codes → Linked n e stars codes
unfolding turn_end
link_next session d out s stars codes {e = e} t is l =
    subst (λ (x : Session). Linked x e stars codes) is (subst (λ (x : TurnEnd). Linked (next_of session (record_of session s)) x.desk stars codes) (sym t) l)

-- k + 1 records are enough
ran : {session : Session} {d : Desk} {s text : List ℕ} → Ran session d s text → (stars codes : List ℕ) → Linked session d stars codes
    → (k : ℕ) → 65536 ≤ suc k + session.records → text ≡ printed (suc k) session stars codes s
ran {session} {d} {s} (last out turn none) stars codes link k enough =
    let t = turn ∙ turn_cut session d out s in
    printed-text session d out s turn ∙ same_line session d stars codes link s (record_of session s)
    ∙ sym (printed_last k session stars codes s (turn_over session d out s t none))
ran {session} {d} {s} (more {text = text} out turn some rest) stars codes link k enough =
    let t = turn ∙ turn_cut session d out s in
    let (going, is) = turn_on session d out s t some in
    let (few, next) = less_left session d out s t some in
    let rec = record_of session s in
    let a = stars_with stars rec in
    let b = codes_with codes rec in
    let k-is : suc (k - 1) ≡ k = omega arith in
    let ih = ran rest a b (link_next session d out s a b t is (linked_on session d stars codes link s rec refl)) (k - 1) (omega arith) in
    ap₂ (λ (x y : List ℕ). x ++ y) (printed-text session d out s turn ∙ same_line session d stars codes link s rec)
    (ih ∙ ap₂ (λ (j : ℕ) (x : Session). printed j x a b (rest_of s)) k-is (sym is))
    ∙ sym (printed_more k session stars codes s going)

pub ran_transcript : (s text : List ℕ) → Ran start_of empty s text → text ≡ transcript s
unfolding transcript
ran_transcript s text run = ran run [] [] linked_start 65535 (omega arith)

-- ---- every input has a run

abbrev Runs : Session → Desk → List ℕ → Type 0
Runs session d s = (text : List ℕ) × Ran session d s text

none_or_next : (o : Option Session) → (o ≡ None) ⊎ ((n : Session) × (o ≡ Some n))
none_or_next None = inl refl
none_or_next (Some n) = inr (n, refl)

runs : (k : ℕ) (session : Session) (d : Desk) (s : List ℕ) → 65535 ≤ k + session.records → Runs session d s
runs zero session d s enough =
    let t = turn_end session d [] (chunk_of s) in
    ⊎_elim (λ (h : t.answer.next ≡ None). (_, last [] refl h))
    (λ (h : (n : Session) × (t.answer.next ≡ Some n)). let (few, next) = less_left session d [] s (turn_cut session d [] s) h.1 in absurd (omega arith))
    (none_or_next t.answer.next)
runs (suc k) session d s enough =
    let t = turn_end session d [] (chunk_of s) in
    ⊎_elim (λ (h : t.answer.next ≡ None). (_, last [] refl h))
    (λ (h : (n : Session) × (t.answer.next ≡ Some n)).
    let (few, next) = less_left session d [] s (turn_cut session d [] s) h.1 in
    let (text, rest) = runs k h.0 t.desk (rest_of s) (omega arith) in
    (_, more [] refl h.1 rest))
    (none_or_next t.answer.next)

pub run_exists : (s : List ℕ) → (text : List ℕ) × Ran start_of empty s text
run_exists s = runs 65535 start_of empty s (omega arith)

-- so what a run prints is the transcript, and nothing else
pub prints : (s : List ℕ) → Ran start_of empty s (transcript s)
prints s = let (text, run) = run_exists s in subst (Ran start_of empty s) (ran_transcript s text run) run
