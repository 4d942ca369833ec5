-- Laws of the walk's steps: what the first steps open and test, and where the searches stop. Assumes nothing.
use mathlib.Core.Path.{◌≡◌, ap, ◌∙◌}
use mathlib.Core.Logic.{⊎_elim}
use mathlib.Core.Bool.{Bool, true, false}
use mathlib.Core.List.{List, ◌++◌}
use Prim.Native.Nat.{ℕ, ◌+◌, ◌≤◌, ◌<◌}
use native.Mathlib.Nat.{eq-or-lt_of_le}
use native.Mathlib.Omega.{arith}
use lib.Dec.{leb}
use lib.ListN.{length}
use borrow.Author.Tests.{ne_eqb, eq-eqb}
use Rattle.theory.proofs.Lists.{cat_front, first_is, first-none}
use Rattle.scope.specs.Shape.{q}
use Rattle.scope.specs.Tables.{Index, n}
use Rattle.scope.specs.Walk.{Question, star_of, opens, opened, near}
use Rattle.scope.specs.Search.{K, steps_until, nearest_steps, within_steps}
use Rattle.scope.specs.Verdict.{two_stars, verdict_steps}

-- ---- what the steps open

-- after the first N steps, M of them the first
pub opened_front : (ask : Question) (M N : ℕ) → M ≤ N → (t : List (ℕ × ℕ)) × (opened ask N ≡ opened ask M ++ t)
unfolding opened
opened_front ask M N h = cat_front (opens ask) M N h

-- ---- where the search within r stops

-- with n = 0 before the first step, otherwise after step r
pub within_none : (x : Index) (r : ℕ) → n x ≡ 0 → within_steps x r ≡ 0
unfolding within_steps
within_none x r e = rw (eq-eqb (n x) 0 e)

pub within_some : (x : Index) (r : ℕ) → 0 < n x → within_steps x r ≡ r + 1
unfolding within_steps
within_some x r h = rw (ne_eqb (n x) 0 (omega arith))

-- ---- where a walk stops that goes on until what is near is enough

module _ (ask : Question) (enough : List ℕ → Bool) where
  -- after the first step R at which the tested entries that have distance R or less are enough
  pub until_at : (R : ℕ) → R ≤ q ask.index.shape → ((j : ℕ) → j < R → enough (near ask j) ≡ false) → enough (near ask R) ≡ true → steps_until ask enough ≡ R + 1
  until_at R l before now =
      ap (λ (k : ℕ). k + 1) (⊎_elim
      (λ (e : R ≡ q ask.index.shape).
      first-none (λ R. enough (near ask R)) (q ask.index.shape) 0 (λ j _ jq. before j (omega arith)) ∙ omega arith)
      (λ (lt : R < q ask.index.shape). first_is (λ R. enough (near ask R)) (q ask.index.shape) 0 R (omega arith) (omega arith) (λ j _ jR. before j jR) now)
      (eq-or-lt_of_le l))

  -- or after step q
  pub until_end : ((j : ℕ) → j < q ask.index.shape → enough (near ask j) ≡ false) → steps_until ask enough ≡ q ask.index.shape + 1
  until_end before = ap (λ (k : ℕ). k + 1) (first-none (λ R. enough (near ask R)) (q ask.index.shape) 0 (λ j _ jq. before j (omega arith)) ∙ omega arith)

-- K of them, for the k nearest
abbrev pub enough : Question → ℕ → List ℕ → Bool
enough ask k l = leb (K ask.index k) (length l)

module _ (ask : Question) (k : ℕ) where
  pub steps_none : K ask.index k ≡ 0 → nearest_steps ask k ≡ 0
  unfolding nearest_steps
  steps_none e = rw (eq-eqb (K ask.index k) 0 e)

  pub steps_some : 0 < K ask.index k → nearest_steps ask k ≡ steps_until ask (enough ask k)
  unfolding nearest_steps
  steps_some h = rw (ne_eqb (K ask.index k) 0 (omega arith))

-- two different stars, for a verdict
module _ (ask : Question) where
  pub verdict-none : n ask.index ≡ 0 → verdict_steps ask ≡ 0
  unfolding verdict_steps
  verdict-none e = rw (eq-eqb (n ask.index) 0 e)

  pub verdict_some : 0 < n ask.index → verdict_steps ask ≡ steps_until ask (two_stars (star_of ask))
  unfolding verdict_steps
  verdict_some h = rw (ne_eqb (n ask.index) 0 (omega arith))
