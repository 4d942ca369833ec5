-- A mask without its lowest ones. Assumes nothing.
use mathlib.Core.Path.{◌≡◌, refl, ap, ap₂, ◌∙◌}
use mathlib.Core.Logic.{⊎_elim}
use Prim.Native.Nat.{ℕ, suc, ◌+◌, ◌-◌, ◌*◌, ◌^◌, ◌≤◌, ◌<◌}
use native.Mathlib.Nat.{pow-suc, mul-le-mul_right}
use native.Mathlib.Omega.{arith}
use lib.Bits.{bit_and, and_block, and_self}
use lib.Count.{ones, ones_cat}
use lib.Pow.{pow_pos, pow_mono, pow-add, ones_lt}
use Rattle.theory.proofs.Tests.{lt-or-le}
use Rattle.theory.proofs.Digits.{odd_part}
use Rattle.theory.proofs.Under.{no_ones}

-- rest is the mask from some place on; below that place it has i ones
pub record Cleared (under i rest : ℕ) : Type 0 where
  pub place : ℕ
  pub above : ℕ
  pub below : ℕ
  pub whole : under ≡ above * 2 ^ place + below
  pub low : below < 2 ^ place
  pub rest_is : rest ≡ above * 2 ^ place
  pub many : ones below ≡ i

pub cleared-none : (under : ℕ) → Cleared under 0 under
unfolding ones
cleared-none under = record { place = 0; above = under; below = 0; whole = omega arith; low = omega arith; rest_is = omega arith; many = refl }

one_one : ones 1 ≡ 1
unfolding ones
one_one = refl

-- without its lowest one: the digits from the place above that one on
without : (b t : ℕ) → bit_and ((b * 2 + 1) * 2 ^ t) ((b * 2 + 1) * 2 ^ t - 1) ≡ b * 2 ^ suc t
without b t =
    let x : (b * 2 + 1) * 2 ^ t ≡ (b * 2 + 1) * 2 ^ t + 0 = omega arith in
    let y : (b * 2 + 1) * 2 ^ t - 1 ≡ (b * 2 + 0) * 2 ^ t + (2 ^ t - 1) = omega (arith, pow_pos t) in
    ap₂ bit_and x y
    ∙ and_block t (b * 2 + 1) (b * 2 + 0) 0 (2 ^ t - 1) (pow_pos t) (ones_lt t)
    ∙ ap (λ (n : ℕ). n * 2 ^ t + bit_and 0 (2 ^ t - 1)) (and_block 1 b b 1 0 (omega arith) (omega arith) ∙ ap (λ (n : ℕ). n * 2 + 0) (and_self b))
    ∙ omega (arith, ap (λ (q : ℕ). b * q) (pow-suc 2 t))

module _ (under i rest : ℕ) (c : Cleared under i rest) where
  pub cleared_some : i < ones under → 0 < rest
  cleared_some l =
      let all = ap ones c.whole ∙ ones_cat c.place c.above c.below c.low in
      let r = c.rest_is in
      ⊎_elim (λ (p : 0 < c.above). omega (arith, mul-le-mul_right (2 ^ c.place) p, pow_pos c.place))
      (λ (z : c.above ≤ 0). let none : c.above ≡ 0 = omega arith in absurd (let m = c.many in omega (arith, ap ones none, no_ones)))
      (lt-or-le 0 c.above)

  pub cleared_more : 0 < rest → Cleared under (i + 1) (bit_and rest (rest - 1))
  cleared_more p =
      let r = c.rest_is in
      let some : 0 < c.above = ⊎_elim (λ g. g) (λ (z : c.above ≤ 0). let none : c.above ≡ 0 = omega arith in absurd (omega (arith, ap (λ (n : ℕ). n * 2 ^ c.place) none))) (lt-or-le 0 c.above) in
      let (b, t, e) = odd_part c.above some in
      more b t e
    where
      more : (b t : ℕ) → c.above ≡ (b * 2 + 1) * 2 ^ t → Cleared under (i + 1) (bit_and rest (rest - 1))
      more b t e =
          let q = t + c.place in
          let up : c.above * 2 ^ c.place ≡ (b * 2 + 1) * 2 ^ q = ap (λ (n : ℕ). n * 2 ^ c.place) e ∙ omega (arith, ap (λ (n : ℕ). (b * 2 + 1) * n) (pow-add 2 t c.place)) in
          let low : c.below < 2 ^ q = let h = c.low in let wide : c.place ≤ q = omega arith in omega (arith, pow_mono wide) in
          let w = c.whole in
          let m = c.many in
          record {
            place = suc q;
            above = b;
            below = 1 * 2 ^ q + c.below;
            whole = omega (arith, ap (λ (n : ℕ). b * n) (pow-suc 2 q));
            low = omega (arith, pow-suc 2 q);
            rest_is = ap (λ (n : ℕ). bit_and n (n - 1)) (c.rest_is ∙ up) ∙ without b q;
            many = omega (arith, ones_cat q 1 c.below low, one_one);
          }
