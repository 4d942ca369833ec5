-- The numbers of s digits by the ones that they have under a mask: with c ones in the mask, 2 ^ (s - c) * C(c, r) of them have r. Assumes nothing.
use mathlib.Core.Path.{◌≡◌, refl, sym, ap, ap₂, ◌∙◌, subst₂}
use mathlib.Core.Logic.{⊎_elim}
use Prim.Native.Nat.{ℕ, zero, suc, ◌+◌, ◌-◌, ◌*◌, ◌^◌, ◌≤◌, ◌<◌, zero-le}
use native.Mathlib.Nat.{two-pow-succ, one-mul, lt_of_le_of_lt, add-zero, mul_comm}
use native.Mathlib.Omega.{arith}
use lib.Bits.{bit_and, and_block, and_le_l}
use lib.Dec.{eqb, ltb, eqb-zero-suc, eqb-suc-zero, eqb-suc-suc}
use lib.Count.{ones, ones_cat, ones-le, ones-ones}
use lib.Pow.{pow_pos}
use borrow.Author.Tests.{le-ltb}
use Rattle.theory.specs.Lists.{sum, count}
use Rattle.theory.specs.Binomials.{binomial, L}
use Rattle.theory.proofs.Tests.{one_if, one_if-suc, lt-or-le}
use Rattle.theory.proofs.Sums.{sum_cong, sum_split, sum-zero, sum_plus, sum-times}
use Rattle.theory.proofs.Counting.{count-sum, count-le}

-- one digit more, and set: one more
pub ones_top : (s x : ℕ) → x < 2 ^ s → ones (2 ^ s + x) ≡ suc (ones x)
unfolding ones
ones_top s x h = ap (λ (n : ℕ). ones (n + x)) (sym (one-mul (2 ^ s))) ∙ ones_cat s 1 x h ∙ omega arith

-- ---- with r ones under the mask k

weight : ℕ → ℕ → ℕ → ℕ
weight s k r = sum (λ x. one_if (eqb (ones (bit_and x k)) r)) (2 ^ s)

-- a top digit of the number only, of the mask only, of both
module _ (s x k : ℕ) (hx : x < 2 ^ s) (hk : k < 2 ^ s) where
  number_only : bit_and (2 ^ s + x) k ≡ bit_and x k
  number_only =
      let a : 2 ^ s + x ≡ 1 * 2 ^ s + x = omega arith in
      let b : k ≡ 0 * 2 ^ s + k = omega arith in
      ap₂ bit_and a b ∙ and_block s 1 0 x k hx hk ∙ omega arith

  mask_only : bit_and x (2 ^ s + k) ≡ bit_and x k
  mask_only =
      let a : x ≡ 0 * 2 ^ s + x = omega arith in
      let b : 2 ^ s + k ≡ 1 * 2 ^ s + k = omega arith in
      ap₂ bit_and a b ∙ and_block s 0 1 x k hx hk ∙ omega arith

  both : ones (bit_and (2 ^ s + x) (2 ^ s + k)) ≡ suc (ones (bit_and x k))
  both =
      let a : 2 ^ s + x ≡ 1 * 2 ^ s + x = omega arith in
      let b : 2 ^ s + k ≡ 1 * 2 ^ s + k = omega arith in
      let c : 1 * 2 ^ s + bit_and x k ≡ 2 ^ s + bit_and x k = omega arith in
      ap ones (ap₂ bit_and a b ∙ and_block s 1 1 x k hx hk ∙ c) ∙ ones_top s (bit_and x k) (lt_of_le_of_lt (and_le_l x k) hx)

-- where the mask has a 0 on top the count doubles; where it has a 1, Pascal's rule
weight-zero : (s k r : ℕ) → k < 2 ^ s → weight (suc s) k r ≡ weight s k r + weight s k r
unfolding weight
weight-zero s k r h =
    rw (two-pow-succ, sum_split) (ap (λ (n : ℕ). sum (λ x. one_if (eqb (ones (bit_and x k)) r)) (2 ^ s) + n)
    (sum_cong _ _ (2 ^ s) (λ x l. ap (λ (v : ℕ). one_if (eqb (ones v) r)) (number_only s x k l h))))

weight_one : (s k r : ℕ) → k < 2 ^ s → weight (suc s) (2 ^ s + k) (suc r) ≡ weight s k (suc r) + weight s k r
unfolding weight
weight_one s k r h =
    rw (two-pow-succ, sum_split) (ap₂ (λ (m n : ℕ). m + n)
    (sum_cong _ _ (2 ^ s) (λ x l. ap (λ (v : ℕ). one_if (eqb (ones v) (suc r))) (mask_only s x k l h)))
    (sum_cong _ _ (2 ^ s) (λ x l. ap (λ (v : ℕ). one_if (eqb v (suc r))) (both s x k l h) ∙ rw eqb-suc-suc)))

weight-none : (s k : ℕ) → k < 2 ^ s → weight (suc s) (2 ^ s + k) 0 ≡ weight s k 0
unfolding weight
weight-none s k h =
    rw (two-pow-succ, sum_split) (ap₂ (λ (m n : ℕ). m + n)
    (sum_cong _ _ (2 ^ s) (λ x l. ap (λ (v : ℕ). one_if (eqb (ones v) 0)) (mask_only s x k l h)))
    (sum-zero _ (2 ^ s) (λ x l. ap (λ (v : ℕ). one_if (eqb v 0)) (both s x k l h) ∙ rw eqb-suc-zero))
    ∙ add-zero _)

weight_start : (r : ℕ) → weight 0 0 r ≡ 2 ^ 0 * binomial (ones 0) r
unfolding weight ones binomial sum
weight_start zero = refl
weight_start (suc r) = rw eqb-zero-suc

weight_step : (s k e r : ℕ) → k < 2 ^ s → ((r : ℕ) → weight s k r ≡ 2 ^ e * binomial (ones k) r) → weight (suc s) (2 ^ s + k) r ≡ 2 ^ e * binomial (suc (ones k)) r
unfolding binomial
weight_step s k e zero h ih = weight-none s k h ∙ ih 0
weight_step s k e (suc r) h ih = weight_one s k r h ∙ omega (arith, ih (suc r), ih r)

-- e of the mask's s digits are 0
weight_is : (s k e r : ℕ) → k < 2 ^ s → ones k + e ≡ s → weight s k r ≡ 2 ^ e * binomial (ones k) r
weight_is zero k e r h o =
    let k0 : k ≡ 0 = omega arith in
    let e0 : e ≡ 0 = omega arith in
    subst₂ (λ (k e : ℕ). weight 0 k r ≡ 2 ^ e * binomial (ones k) r) (sym k0) (sym e0) (weight_start r)
weight_is (suc s) k e r h o =
    ⊎_elim
    (λ (l : k < 2 ^ s).
    let up : e ≡ suc (e - 1) = omega (arith, ones-le s k l) in
    let ih = weight_is s k (e - 1) r l (omega arith) in
    weight-zero s k r l
    ∙ omega (arith, ih, ap (λ (n : ℕ). n * binomial (ones k) r) (ap (λ (e : ℕ). 2 ^ e) up ∙ two-pow-succ (e - 1))))
    (λ (g : 2 ^ s ≤ k).
    let low : k - 2 ^ s < 2 ^ s = omega (arith, two-pow-succ s) in
    let whole : k ≡ 2 ^ s + (k - 2 ^ s) = omega arith in
    let one : ones k ≡ suc (ones (k - 2 ^ s)) = ap ones whole ∙ ones_top s (k - 2 ^ s) low in
    ap (λ (k : ℕ). weight (suc s) k r) whole
    ∙ weight_step s (k - 2 ^ s) e r low (λ r. weight_is s (k - 2 ^ s) e r low (omega arith))
    ∙ ap (λ (c : ℕ). 2 ^ e * binomial c r) (sym one)) (lt-or-le k (2 ^ s))

module _ (s k : ℕ) (h : k < 2 ^ s) where
  pub count_masks : (r : ℕ) → count (λ x. eqb (ones (bit_and x k)) r) (2 ^ s) ≡ 2 ^ (s - ones k) * binomial (ones k) r
  unfolding weight
  count_masks r = count-sum (λ x. eqb (ones (bit_and x k)) r) (2 ^ s) ∙ weight_is s k (s - ones k) r h (omega (arith, ones-le s k h))

  -- with r ones for each r below n
  pub masks_below : (n : ℕ) → sum (λ r. count (λ x. eqb (ones (bit_and x k)) r) (2 ^ s)) n ≡ 2 ^ (s - ones k) * L (ones k) n
  masks_below n =
      sum_cong _ _ n (λ r _. count_masks r ∙ mul_comm (2 ^ (s - ones k)) (binomial (ones k) r))
      ∙ sum-times (binomial (ones k)) (2 ^ (s - ones k)) n ∙ mul_comm (L (ones k) n) (2 ^ (s - ones k))

  -- with fewer than n, and these are no more than there are numbers
  count_fewer : (n : ℕ) → count (λ x. ltb (ones (bit_and x k)) n) (2 ^ s) ≡ 2 ^ (s - ones k) * L (ones k) n
  unfolding weight sum
  count_fewer n = count-sum (λ x. ltb (ones (bit_and x k)) n) (2 ^ s) ∙ go n
    where
      go : (n : ℕ) → sum (λ x. one_if (ltb (ones (bit_and x k)) n)) (2 ^ s) ≡ 2 ^ (s - ones k) * L (ones k) n
      go zero = sum-zero _ (2 ^ s) (λ x _. rw (le-ltb (ones (bit_and x k)) 0 zero-le)) ∙ omega arith
      go (suc n) =
          sum_cong _ _ (2 ^ s) (λ x _. one_if-suc (ones (bit_and x k)) n)
          ∙ sum_plus (λ x. one_if (ltb (ones (bit_and x k)) n)) (λ x. one_if (eqb (ones (bit_and x k)) n)) (2 ^ s)
          ∙ omega (arith, go n, weight_is s k (s - ones k) n h (omega (arith, ones-le s k h)))

  pub masks-le : (n : ℕ) → 2 ^ (s - ones k) * L (ones k) n ≤ 2 ^ s
  masks-le n = omega (arith, count_fewer n, count-le (λ x. ltb (ones (bit_and x k)) n) (2 ^ s))

-- ---- the binomials and their sums

-- no number below 2 ^ s has more than s ones
pub binomial-above : (s r : ℕ) → s < r → binomial s r ≡ 0
unfolding binomial
binomial-above zero zero h = omega arith
binomial-above zero (suc r) h = refl
binomial-above (suc s) zero h = omega arith
binomial-above (suc s) (suc r) h = omega (arith, binomial-above s r (omega arith), binomial-above s (suc r) (omega arith))

pub L-le : (s k : ℕ) → L s k ≤ 2 ^ s
L-le s k =
    let few = masks-le s (2 ^ s - 1) (omega (arith, pow_pos s)) k in
    let none : s - s ≡ 0 = omega arith in
    rw (ones-ones, none, one-mul) at few
