-- At the edges, over any tables: where there is nothing to look for nothing is opened; and how many mark words 64 entries need, and 65. Assumes nothing.
use Rattle.std.specs.Prelude.{Ok, Err}
use mathlib.Core.Path.{◌≡◌, refl, ◌∙◌}
use mathlib.Core.List.{List, [], ◌∷◌, ◌++◌}
use Prim.Native.Nat.{ℕ}
use native.Mathlib.Omega.{arith}
use lib.ListN.{length}
use borrow.Author.Tests.{le-ltb}
use Rattle.theory.specs.Lists.{count}
use Rattle.theory.proofs.Counting.{count_never}
use Rattle.scope.specs.declared.Report.{Report}
use Rattle.scope.specs.declared.Verdict.TheVariants.{None}
use Rattle.scope.specs.Shape.{q}
use Rattle.scope.specs.Tables.{n}
use Rattle.scope.specs.Walk.{Question, tested}
use Rattle.scope.specs.Search.{K, nearest_steps, nearest, within_steps, within, answers}
use Rattle.scope.specs.Verdict.{rivals, verdict_steps, nearest_rivals, verdict_of}
use Rattle.scope.specs.Refusals.{mark_words, few_places, too_many, unless}
use Rattle.scope.specs.Calls.{Asked, room, handed, walked, report, nearest_answer, nearest_end, within_answer, within_end, search_end, verdict_report, verdict_answer, verdict_end}
use Rattle.scope.proofs.Rows.{unless_past}
use Rattle.scope.proofs.Steps.{steps_none, within_none, verdict-none}
use Rattle.scope.proofs.Walking.{opened-none, tested-none, few_answers}
use Rattle.demands.specs.Trust.{NoneFits}

-- no answers, 0 buckets, 0 tested
abbrev nothing : Report
nothing = record { answers = 0; opened = record { 0 = 0 }; tested = record { 0 = 0 } }

-- before the first step no entry is tested
none-tested : (ask : Question) → count (tested ask 0) (n ask.index) ≡ 0
none-tested ask = count_never (tested ask 0) (n ask.index) (λ i _. tested-none ask i)

-- an empty catalogue has no entry within r
none_within : (ask : Question) (r : ℕ) → n ask.index ≡ 0 → length (within ask r) ≡ 0
unfolding within
none_within ask r e = omega (arith, few_answers ask (tested ask (within_steps ask.index r)) r)

module _ (c : Asked) where
  -- K = 0: nothing is opened, tested or listed
  pub nearest-nothing : (k : ℕ) → NoneFits (handed c.question [] c.marks) → K c.question.index k ≡ 0 → (nearest_end c k).answer ≡ Ok nothing
  unfolding nearest_end search_end nearest_answer nearest report unless
  nearest-nothing k taken e =
      let ask = c.question in
      let N = nearest_steps ask k in
      unless_past (handed ask [] c.marks) (few_places (K ask.index k) (room c) ++ walked ask N) Err (Ok (report ask N (nearest ask k))) taken
      ∙ rw (e, steps_none ask k e, opened-none ask, none-tested ask, le-ltb (room c) 0 (omega arith)) refl

  -- within r with n = 0: the same
  pub within-nothing : (r : ℕ) → NoneFits (handed c.question (r ∷ []) c.marks) → n c.question.index ≡ 0 → (within_end c r).answer ≡ Ok nothing
  unfolding within_end search_end within_answer report unless
  within-nothing r taken e =
      let ask = c.question in
      let N = within_steps ask.index r in
      unless_past (handed ask (r ∷ []) c.marks) (walked ask N ++ too_many (length (within ask r)) (room c)) Err (Ok (report ask N (within ask r))) taken
      ∙ rw (none_within ask r e, within_none ask.index r e, opened-none ask, none-tested ask, le-ltb (room c) 0 (omega arith)) refl

-- a verdict with n = 0: none, 0 buckets, 0 tested
no_rivals : (ask : Question) → n ask.index ≡ 0 → nearest_rivals ask ≡ []
unfolding nearest_rivals rivals
no_rivals ask e = rw (nobody (answers ask (tested ask (verdict_steps ask)) (q ask.index.shape)) (omega (arith, few_answers ask (tested ask (verdict_steps ask)) (q ask.index.shape))))
  where
    nobody : (l : List ℕ) → length l ≡ 0 → l ≡ []
    nobody [] h = refl
    nobody (a ∷ l) h = absurd (omega arith)

pub verdict-nothing : (ask : Question) (marks : List ℕ) (t g : ℕ) → NoneFits (handed ask (t ∷ g ∷ []) marks) → n ask.index ≡ 0
    → (verdict_end ask marks t g).answer ≡ Ok (record { verdict = None; opened = record { 0 = 0 }; tested = record { 0 = 0 } })
unfolding verdict_end verdict_answer verdict_report verdict_of unless
verdict-nothing ask marks t g taken e =
    let N = verdict_steps ask in
    unless_past (handed ask (t ∷ g ∷ []) marks) (walked ask N) Err (Ok (verdict_report ask t g N (nearest_rivals ask))) taken
    ∙ rw (no_rivals ask e, verdict-none ask e, opened-none ask, none-tested ask) refl

-- a word of marks serves 64 entries, and the next entry needs a second
pub marks_64_65 : (mark_words 64 ≡ 1) × (mark_words 65 ≡ 2)
marks_64_65 = (refl, refl)
