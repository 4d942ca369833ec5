-- What a search lists, prints and leaves: no more than n answers; the same text whatever the lists held; lists as long as they were. Assumes nothing.
use Rattle.std.specs.Prelude.{Result, Ok, Err}
use Rattle.scope.specs.declared.Report.{Report}
use Rattle.scope.specs.declared.Refusal.{Refusal}
use mathlib.Core.Path.{◌≡◌, refl, ap, ap₂, sym, ◌∙◌}
use mathlib.Core.List.{List, ◌++◌}
use Prim.Native.Nat.{ℕ, min, ◌≤◌}
use native.Mathlib.Omega.{arith}
use lib.ListN.{length, get_or, length-take}
use Rattle.theory.proofs.Lists.{cat_cong}
use Rattle.scope.specs.Shape.{q}
use Rattle.scope.specs.Tables.{Index, n}
use Rattle.scope.specs.Walk.{tested}
use Rattle.scope.specs.Walk as walk
use Rattle.scope.specs.Search.{K, nearest_steps, nearest, within_steps, within, answers}
use Rattle.scope.specs.Refusals.{lent, of_found}
use Rattle.scope.specs.Calls.{Asked, asked, room, report, nearest_answer, within_answer, search_end, nearest_end, within_end, verdict_answer, verdict_end}
use Rattle.scope.proofs.Walking.{few_answers}
use Rattle.scope.proofs.Rows.{unless_holds, lent_at, length-lent}
use Rattle.reading.specs.declared.Question.{Question}
use Rattle.reading.specs.declared.Question.TheVariants.{Nearest, Within, Verdict, Sky}
use Rattle.lines.specs.Lines.{answer_line, answer_lines, answers_of, counts_line, found_lines, near, within as withinWord, judged_line}
use Rattle.transcript.specs.Questions.{asks, reply}
use Rattle.transcript.specs.declared.Lists.{Lists}
use Rattle.transcript.specs.Transcript.{fresh}

-- ---- how many answers there are

pub nearest_few : (c : Asked) (k : ℕ) → answers_of (nearest_answer c k) ≤ K c.question.index k
unfolding nearest_answer report nearest
nearest_few c k =
    unless_holds (λ r. answers_of r ≤ K c.question.index k) _ Err _ (λ f. omega arith)
    (omega (arith, length-take (K c.question.index k) (answers c.question (tested c.question (nearest_steps c.question k)) (q c.question.index.shape))))

pub within_few : (c : Asked) (r : ℕ) → answers_of (within_answer c r) ≤ n c.question.index
unfolding within_answer report within
within_few c r =
    unless_holds (λ r. answers_of r ≤ n c.question.index) _ Err _ (λ f. omega arith)
    (few_answers c.question (tested c.question (within_steps c.question.index r)) r)

-- ---- the answers do not go by what the lists hold

module _ (ask : walk.Question) (marks entries distances marks' entries' distances' : List ℕ)
    (a : length marks ≡ length marks') (b : length entries ≡ length entries') (c : length distances ≡ length distances') where
  nearest-same : (k : ℕ) → nearest_answer (asked ask marks entries distances) k ≡ nearest_answer (asked ask marks' entries' distances') k
  unfolding nearest_answer
  nearest-same k = rw (a, b, c)

  within_same : (r : ℕ) → within_answer (asked ask marks entries distances) r ≡ within_answer (asked ask marks' entries' distances') r
  unfolding within_answer
  within_same r = rw (a, b, c)

answer_lines_lem : (stars : List ℕ) (P : ℕ) (l m e e' d d' : List ℕ) (k : ℕ) → k ≤ P
    → answer_lines stars (lent 0 P l e) (lent 0 P m d) k ≡ answer_lines stars (lent 0 P l e') (lent 0 P m d') k
unfolding answer_lines
answer_lines_lem stars P l m e e' d d' k h =
    cat_cong _ _ k (λ i lt.
    let p : get_or (lent 0 P l e) i 0 ≡ get_or (lent 0 P l e') i 0 = lent_at P l e i (omega arith) ∙ sym (lent_at P l e' i (omega arith)) in
    let o : get_or (lent 0 P m d) i 0 ≡ get_or (lent 0 P m d') i 0 = lent_at P m d i (omega arith) ∙ sym (lent_at P m d' i (omega arith)) in
    ap₂ (λ (x y : ℕ). answer_line x (get_or stars x 0) y) p o)

found_lines_lem : (word : List ℕ) (number : ℕ) (r : Result Report Refusal) (stars : List ℕ) (P : ℕ) (l m e e' d d' : List ℕ) → answers_of r ≤ P
    → found_lines word number r stars (lent (of_found r).0 P l e) (lent (of_found r).0 P m d)
    ≡ found_lines word number r stars (lent (of_found r).0 P l e') (lent (of_found r).0 P m d')
found_lines_lem word number (Ok report) stars P l m e e' d d' h =
    ap (λ (t : List ℕ). counts_line word number report ++ t) (answer_lines_lem stars P l m e e' d d' report.answers h)
found_lines_lem word number (Err f) stars P l m e e' d d' h = refl

found_same : (word : List ℕ) (number : ℕ) (r r' : Result Report Refusal) (stars : List ℕ) (P P' : ℕ) (l m e e' d d' : List ℕ) → r ≡ r' → P ≡ P' → answers_of r ≤ P
    → found_lines word number r stars (lent (of_found r).0 P l e) (lent (of_found r).0 P m d)
    ≡ found_lines word number r' stars (lent (of_found r').0 P' l e') (lent (of_found r').0 P' m d')
found_same word number r r' stars P P' l m e e' d d' a b h =
    found_lines_lem word number r stars P l m e e' d d' h
    ∙ ap₂ (λ (r : Result Report Refusal) (P : ℕ). found_lines word number r stars (lent (of_found r).0 P l e') (lent (of_found r).0 P m d')) a b

verdict-same : (ask : walk.Question) (marks marks' : List ℕ) (t g : ℕ) → length marks ≡ length marks' → verdict_answer ask marks t g ≡ verdict_answer ask marks' t g
unfolding verdict_answer
verdict-same ask marks marks' t g a = rw a

-- ---- replies

-- lists of a session's lengths
pub record Sized (l : Lists) : Type 0 where
  pub marks : length l.marks ≡ 8
  pub entries : length l.entries ≡ 512
  pub distances : length l.distances ≡ 512

pub fresh_sized : Sized fresh
fresh_sized = record { marks = refl; entries = refl; distances = refl }

module _ (number : ℕ) (x : Index) (few : n x ≤ 512) where
  -- a question prints the same whatever the lists held
  pub same_text : (l m : Lists) → Sized l → Sized m → (q : Question) (s : List ℕ) → (reply number x l q s).text ≡ (reply number x m q s).text
  unfolding reply nearest_end within_end search_end verdict_end
  same_text l m a b (Nearest k code) s =
      let c = asks x l code in
      let same = nearest-same c.question l.marks l.entries l.distances m.marks m.entries m.distances
      (a.marks ∙ sym b.marks) (a.entries ∙ sym b.entries) (a.distances ∙ sym b.distances) k in
      found_same near number _ _ x.stars _ _ _ _ l.entries m.entries l.distances m.distances same refl (nearest_few c k)
  same_text l m a b (Within r code) s =
      let c = asks x l code in
      let same = within_same c.question l.marks l.entries l.distances m.marks m.entries m.distances
      (a.marks ∙ sym b.marks) (a.entries ∙ sym b.entries) (a.distances ∙ sym b.distances) r in
      let p : min (n x) (room c) ≡ min (n x) (room (asks x m code)) = omega (arith, a.entries, b.entries, a.distances, b.distances) in
      found_same withinWord number _ _ x.stars _ _ _ _ l.entries m.entries l.distances m.distances same p
      (omega (arith, within_few c r, a.entries, a.distances))
  same_text l m a b (Verdict t g code) s =
      ap (judged_line number) (verdict-same (asks x l code).question l.marks m.marks t g (a.marks ∙ sym b.marks))
  same_text l m a b (Sky unit k) s = refl

  -- and leaves them as long as they were
  pub still_sized : (l : Lists) → Sized l → (q : Question) (s : List ℕ) → Sized (reply number x l q s).lists
  unfolding reply nearest_end within_end search_end verdict_end
  still_sized l a (Nearest k code) s =
      record {
        marks = length-lent _ _ _ l.marks (omega (arith, a.marks)) ∙ a.marks;
        entries = length-lent _ _ _ l.entries (omega (arith, a.entries)) ∙ a.entries;
        distances = length-lent _ _ _ l.distances (omega (arith, a.distances)) ∙ a.distances;
      }
  still_sized l a (Within r code) s =
      record {
        marks = length-lent _ _ _ l.marks (omega (arith, a.marks)) ∙ a.marks;
        entries = length-lent _ _ _ l.entries (omega (arith, a.entries)) ∙ a.entries;
        distances = length-lent _ _ _ l.distances (omega (arith, a.distances)) ∙ a.distances;
      }
  still_sized l a (Verdict t g code) s =
      record {
        marks = length-lent _ _ _ l.marks (omega (arith, a.marks)) ∙ a.marks;
        entries = a.entries;
        distances = a.distances;
      }
  still_sized l a (Sky unit k) s = a
