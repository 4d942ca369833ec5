-- The first number with r ones under a mask, and the next. Assumes nothing.
use mathlib.Core.Path.{◌≡◌, sym, ap, ap₂, ◌∙◌, subst}
use Prim.Native.Nat.{ℕ, ◌+◌, ◌-◌, ◌*◌, ◌/◌, ◌%◌, ◌^◌, ◌≤◌, ◌<◌, zero-le}
use native.Mathlib.Nat.{mod-lt, mod-le}
use native.Mathlib.Omega.{arith}
use lib.Bits.{bit_and, and_le_r, and_zero_l}
use lib.Count.{ones, count_trailing_zeros}
use lib.Pow.{pow_pos, pow_mono, split, high}
use borrow.Author.Tests.{eq-eqb, ne_eqb}
use Rattle.theory.specs.Lists.{first_from}
use Rattle.theory.proofs.Lists.{first-none, first_is}
use Rattle.theory.proofs.Digits.{odd_part, trailing_odd}
use Rattle.theory.proofs.Under.{no_ones, ones-parts, ones_odd, ones-and-le, and_part, ones-least}
use Rattle.masks.specs.Masks.{has_ones, Lowest, carry_place}
use Rattle.masks.proofs.Carry.{Fills, Carry, Next, carry, carried_from, sentinel, place_few, some}

-- no number has more ones under the mask than the mask has
pub first-over : (k r : ℕ) → ones k < r → 65536 ≡ first_from (has_ones k r) 0 65536
first-over k r h = sym (first-none (has_ones k r) 65536 0 (λ j _ _. ne_eqb (ones (bit_and j k)) r (λ e. omega (arith, ones-and-le j k))))

pub first-lowest : (k r y : ℕ) → k < 65536 → Lowest k r y → y ≡ first_from (has_ones k r) 0 65536
first-lowest k r y h l =
    let e = l.part in
    let m = l.many in
    sym
    (first_is (has_ones k r) 65536 0 y zero-le (omega (arith, mod-le k (2 ^ l.place)))
    (λ j _ b. ne_eqb (ones (bit_and j k)) r (λ o. omega (arith, ones-least k l.place j (omega arith), ap ones e)))
    (eq-eqb (ones (bit_and y k)) r (ap (λ (n : ℕ). ones (bit_and n k)) e ∙ ap ones (and_part k l.place ∙ sym e) ∙ m)))

-- ---- the next

-- t is the place of e's lowest one under the mask
pub filling : (k e : ℕ) → k < 65536 → (count_trailing_zeros 64 (bit_and e k + 65536) ≤ 16) × Fills k e (count_trailing_zeros 64 (bit_and e k + 65536))
filling k e h =
    let (b, t, d) = odd_part (bit_and e k + 65536) (omega arith) in
    let few : t ≤ 16 = place_few b t (bit_and e k + 65536) (omega (arith, and_le_r e k)) d in
    let at : t ≡ count_trailing_zeros 64 (bit_and e k + 65536) = sym (ap (count_trailing_zeros 64) d ∙ trailing_odd 64 b t (omega arith)) in
    subst (λ (n : ℕ). (n ≤ 16) × Fills k e n) at (few, sentinel k e b t h d few)

-- what the code asks, and what it makes of e, by the place p of its new one
pub record Steps (k r e p : ℕ) : Type 0 where
  pub low : p ≤ 16
  pub up : ℕ
  pub up_is : (e / 2 ^ p + 1) * 2 ^ p ≡ up
  pub few : up ≤ 131072
  pub fewer : ones (bit_and up k) ≤ r
  pub enough : r - ones (bit_and up k) ≤ ones k
  pub next : (y : ℕ) → Lowest k (r - ones (bit_and up k)) y → up + y ≡ first_from (has_ones k r) (e + 1) 65536

module _ (k r e t : ℕ) (hk : k < 65536) (he : e < 65536) (many : ones (bit_and e k) ≡ r) (f : Fills k e t) (c : Carry e (k % 2 ^ t)) where
  sum_is : e + k % 2 ^ t + 1 ≡ ((c.above + c.over) * 2 + 1) * 2 ^ c.place
  sum_is = let a = c.e_is in let b = c.f_is in let d = c.full in omega arith

  place-low : c.place ≤ 16
  place-low = place_few (c.above + c.over) c.place (e + k % 2 ^ t + 1) (omega (arith, mod-le k (2 ^ t))) sum_is

  place_is : count_trailing_zeros 64 (e + k % 2 ^ t + 1) ≡ c.place
  place_is = ap (count_trailing_zeros 64) sum_is ∙ trailing_odd 64 (c.above + c.over) c.place (omega (arith, place-low))

  taken : Steps k r e c.place
  taken =
      let p = c.place in
      let K = k / 2 ^ p in
      let v = k % 2 ^ p in
      let hv : v < 2 ^ p = mod-lt k (pow_pos p) in
      let d = c.full in
      let hl : c.below < 2 ^ p = omega arith in
      let whole = split k p in
      let high_part : e / 2 ^ p ≡ c.above * 2 = ap (λ (n : ℕ). n / 2 ^ p) c.e_is ∙ high (c.above * 2) p hl in
      let up = (c.above * 2 + 1) * 2 ^ p in
      let all : r ≡ ones (bit_and (c.above * 2) K) + ones (bit_and c.below v) = sym many ∙ ap₂ (λ (x y : ℕ). ones (bit_and x y)) c.e_is (sym whole) ∙ ones-parts p (c.above * 2) K c.below v hl hv in
      let zeros : up ≡ up + 0 = omega arith in
      let here : ones (bit_and up k) ≡ K % 2 + ones (bit_and (c.above * 2) K)
      = ap₂ (λ (x y : ℕ). ones (bit_and x y)) zeros (sym whole) ∙ ones-parts p (c.above * 2 + 1) K 0 v (pow_pos p) hv ∙ omega (arith, ones_odd c.above K, ap ones (and_zero_l v), no_ones) in
      let enough = some k e t f c in
      record {
        low = place-low;
        up = up;
        up_is = ap (λ (n : ℕ). (n + 1) * 2 ^ p) high_part;
        few = let a = c.e_is in omega (arith, pow_mono place-low);
        fewer = omega arith;
        enough = omega (arith, ones-and-le e k);
        next = λ y l. let m = l.many in nexts (up + y) (carried_from k e t f c y l.place l.part (omega arith));
      }
    where
      nexts : (n : ℕ) → Next k c.place e n → n ≡ first_from (has_ones k r) (e + 1) 65536
      nexts n x =
          let above = x.above in
          let near = x.near in
          sym
          (first_is (has_ones k r) 65536 (e + 1) n (omega arith) (omega (arith, pow_mono place-low)) (λ j a b. ne_eqb (ones (bit_and j k)) r (λ o. x.none j (omega arith) b (o ∙ sym many)))
          (eq-eqb (ones (bit_and n k)) r (x.alike ∙ many)))

pub steps : (k r e : ℕ) → k < 65536 → e < 65536 → ones (bit_and e k) ≡ r → Steps k r e (carry_place k e)
unfolding carry_place
steps k r e hk he many =
    let f = (filling k e hk).1 in
    let c = carry e _ f.apart in
    subst (Steps k r e) (sym (place_is k r e _ hk he many f c)) (taken k r e _ hk he many f c)
