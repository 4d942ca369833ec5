-- A call without a mask is the one with the mask that it is lent: a code has at most 4 words, and where refusal 1 fits no mask is looked at. Assumes nothing.
use Rattle.std.specs.Prelude.{Err}
use mathlib.Core.Path.{◌≡◌, refl, sym, ap, ◌∙◌}
use mathlib.Core.Logic.{⊎_elim}
use mathlib.Core.Bool.{true, false}
use mathlib.Core.List.{List}
use Prim.Native.Nat.{ℕ, ◌≤◌}
use Rattle.theory.proofs.Tests.{either}
use Rattle.scope.specs.declared.Refusal.TheVariants.{Unlisted}
use Rattle.scope.specs.Shape.{listed}
use Rattle.scope.specs.Tables.{Index}
use Rattle.scope.specs.Walk.{Question, question, masked, all_ones}
use Rattle.scope.specs.Refusals.{unless, lent}
use Rattle.scope.specs.Calls.{asked, leaves, nearest_answer, nearest_end, within_answer, within_end, judges, verdict_answer, verdict_end}
use Rattle.scope.proofs.Ends.{unchanged}
use Rattle.scope.proofs.Shapes.{facts}

module _ (x : Index) (query mask : List ℕ) (ones : x.shape.w ≤ 4 → mask ≡ all_ones x.shape.w) where
  -- of a listed shape it is the same question
  same : listed x.shape ≡ true → masked x query mask ≡ question x query
  same h = ap (masked x query) (ones (facts x.shape h).few_words)

  module _ (no : listed x.shape ≡ false) where
    nearest_1 : (m : List ℕ) (marks entries distances : List ℕ) (k : ℕ) → nearest_end (asked (masked x query m) marks entries distances) k ≡ leaves (Err Unlisted) marks entries distances
    unfolding nearest_end nearest_answer unless
    nearest_1 m marks entries distances k = rw no (unchanged (asked (masked x query m) marks entries distances) _ _ Unlisted refl)

    within_1 : (m : List ℕ) (marks entries distances : List ℕ) (r : ℕ) → within_end (asked (masked x query m) marks entries distances) r ≡ leaves (Err Unlisted) marks entries distances
    unfolding within_end within_answer unless
    within_1 m marks entries distances r = rw no (unchanged (asked (masked x query m) marks entries distances) _ _ Unlisted refl)

    verdict_1 : (m : List ℕ) (marks : List ℕ) (t g : ℕ) → verdict_end (masked x query m) marks t g ≡ judges (Err Unlisted) marks
    unfolding verdict_end verdict_answer unless lent
    verdict_1 m marks t g = rw no refl

  pub plain_nearest : (marks entries distances : List ℕ) (k : ℕ)
      → nearest_end (asked (masked x query mask) marks entries distances) k ≡ nearest_end (asked (question x query) marks entries distances) k
  plain_nearest marks entries distances k =
      ⊎_elim (λ yes. ap (λ (ask : Question). nearest_end (asked ask marks entries distances) k) (same yes))
      (λ no. nearest_1 no mask marks entries distances k ∙ sym (nearest_1 no (all_ones x.shape.w) marks entries distances k)) (either (listed x.shape))

  pub plain_within : (marks entries distances : List ℕ) (r : ℕ)
      → within_end (asked (masked x query mask) marks entries distances) r ≡ within_end (asked (question x query) marks entries distances) r
  plain_within marks entries distances r =
      ⊎_elim (λ yes. ap (λ (ask : Question). within_end (asked ask marks entries distances) r) (same yes))
      (λ no. within_1 no mask marks entries distances r ∙ sym (within_1 no (all_ones x.shape.w) marks entries distances r)) (either (listed x.shape))

  pub plain_verdict : (marks : List ℕ) (t g : ℕ) → verdict_end (masked x query mask) marks t g ≡ verdict_end (question x query) marks t g
  plain_verdict marks t g =
      ⊎_elim (λ yes. ap (λ (ask : Question). verdict_end ask marks t g) (same yes))
      (λ no. verdict_1 no mask marks t g ∙ sym (verdict_1 no (all_ones x.shape.w) marks t g)) (either (listed x.shape))
