-- From a number e to the next larger one with as many ones under a mask k. Below the place of the carry e has every digit but lowest ones of the mask, so what is larger there has more ones under it (`last`);
-- with a one at that place, the least that makes up the number of ones is again lowest ones of the mask (`carried`). Assumes nothing.
use mathlib.Core.Path.{◌≡◌, sym, ap, ◌∙◌, subst}
use mathlib.Core.Logic.{◌⊎◌, inl, inr, ⊎_elim}
use Prim.Native.Nat.{ℕ, zero, suc, ◌+◌, ◌-◌, ◌*◌, ◌/◌, ◌%◌, ◌^◌, ◌≤◌, ◌<◌}
use native.Mathlib.Nat.{pow-suc, mod-lt, mod-eq_of_lt, div-eq_of_lt}
use native.Mathlib.Omega.{arith}
use lib.Bits.{bit_and, and_step, and_mod, and_comm}
use lib.Count.{ones, ones_cat, ones_step}
use lib.Pow.{pow_pos, pow_mono, pow-lt, pow-add, split, high, low, mod-mod-pow}
use Rattle.theory.proofs.Tests.{lt-or-le}
use Rattle.theory.proofs.Digits.{digit, digit_and, digit_part}
use Rattle.theory.proofs.Under.{ones-parts, ones_odd, ones_complement, and_below, and_part, ones-least}

-- ---- the carry: adding 1 to two numbers that share no one

-- place is the lowest where neither e nor f has a one
pub record Carry (e f : ℕ) : Type 0 where
  pub place : ℕ
  pub above : ℕ
  pub over : ℕ
  pub below : ℕ
  pub rest : ℕ
  pub e_is : e ≡ above * 2 * 2 ^ place + below
  pub f_is : f ≡ over * 2 * 2 ^ place + rest
  pub full : suc (below + rest) ≡ 2 ^ place

double : (h p l d : ℕ) → (h * 2 * 2 ^ p + l) * 2 + d ≡ h * 2 * 2 ^ suc p + (l * 2 + d)
double h p l d = omega (arith, ap (λ (q : ℕ). h * 2 * q) (pow-suc 2 p))

wider : (e f : ℕ) → e % 2 + f % 2 ≡ 1 → Carry (e / 2) (f / 2) → Carry e f
wider e f d c =
    let ee = c.e_is in
    let ff = c.f_is in
    let full = c.full in
    record {
      place = suc c.place;
      above = c.above;
      over = c.over;
      below = c.below * 2 + e % 2;
      rest = c.rest * 2 + f % 2;
      e_is = omega (arith, double c.above c.place c.below (e % 2));
      f_is = omega (arith, double c.over c.place c.rest (f % 2));
      full = omega (arith, pow-suc 2 c.place);
    }

carries : (n e f : ℕ) → e + f < n → bit_and e f ≡ 0 → Carry e f
carries zero e f h a = absurd (omega arith)
carries (suc n) e f h a = go (lt-or-le 0 (e % 2 + f % 2)) (λ l. carries n (e / 2) (f / 2) (omega arith) (omega (arith, and_step e f)))
  where
    go : (0 < e % 2 + f % 2) ⊎ (e % 2 + f % 2 ≤ 0) → (0 < e % 2 + f % 2 → Carry (e / 2) (f / 2)) → Carry e f
    go (inl l) ih = wider e f (omega (arith, and_step e f)) (ih l)
    go (inr g) ih = record { place = 0; above = e / 2; over = f / 2; below = 0; rest = 0; e_is = omega arith; f_is = omega arith; full = omega arith }

pub carry : (e f : ℕ) → bit_and e f ≡ 0 → Carry e f
carry e f = carries (suc (e + f)) e f (omega arith)

-- ---- what is filled

-- below place t the mask and e share no one; at t both have one, if the mask reaches so far
pub record Fills (k e t : ℕ) : Type 0 where
  pub apart : bit_and e (k % 2 ^ t) ≡ 0
  pub ends : (k < 2 ^ t) ⊎ ((digit e t ≡ 1) × (digit k t ≡ 1))

fills_up : (k e t : ℕ) → bit_and e k % 2 ^ t ≡ 0 → (k < 2 ^ t) ⊎ (digit (bit_and e k) t ≡ 1) → Fills k e t
fills_up k e t h s =
    record {
      apart =
          and_comm e (k % 2 ^ t) ∙ and_below e t (k % 2 ^ t) (mod-lt k (pow_pos t)) ∙ and_comm (k % 2 ^ t) (e % 2 ^ t)
          ∙ sym (and_mod e k t) ∙ h;
      ends = ⊎_elim (λ l. inl l) (λ (o : digit (bit_and e k) t ≡ 1). inr (omega (arith, digit_and e k t), omega (arith, digit_and e k t))) s;
    }

same_parts : (t a b r s : ℕ) → r < 2 ^ t → s < 2 ^ t → a * 2 ^ t + r ≡ b * 2 ^ t + s → (a ≡ b) × (r ≡ s)
same_parts t a b r s hr hs e =
    (sym (high a t hr) ∙ ap (λ (n : ℕ). n / 2 ^ t) e ∙ high b t hs, sym (low a t hr) ∙ ap (λ (n : ℕ). n % 2 ^ t) e ∙ low b t hs)

pub place_few : (b t x : ℕ) → x < 131072 → x ≡ (b * 2 + 1) * 2 ^ t → t ≤ 16
place_few b t x h e = ⊎_elim (λ (l : 16 < t). absurd (omega (arith, pow_mono l))) (λ g. g) (lt-or-le 16 t)

-- e's ones under the mask with a one at place 16, which is above them: its lowest one is at t
pub sentinel : (k e b t : ℕ) → k < 65536 → bit_and e k + 65536 ≡ (b * 2 + 1) * 2 ^ t → t ≤ 16 → Fills k e t
sentinel k e b t hk h few =
    let c = bit_and e k in
    let high_part : (2 ^ (16 - t)) * 2 ^ t ≡ 65536 = let whole : 16 - t + t ≡ 16 = omega arith in sym (pow-add 2 (16 - t) t) ∙ ap (λ (n : ℕ). 2 ^ n) whole in
    let same : (c / 2 ^ t + 2 ^ (16 - t)) * 2 ^ t + c % 2 ^ t ≡ (b * 2 + 1) * 2 ^ t + 0 = omega (arith, split c t) in
    let (top, rest) = same_parts t (c / 2 ^ t + 2 ^ (16 - t)) (b * 2 + 1) (c % 2 ^ t) 0 (mod-lt c (pow_pos t)) (pow_pos t) same in
    fills_up k e t rest
    (⊎_elim
    (λ (l : t < 16).
    let even : 2 ^ (16 - t) ≡ 2 ^ (15 - t) * 2 = let more : 16 - t ≡ suc (15 - t) = omega arith in ap (λ (n : ℕ). 2 ^ n) more ∙ pow-suc 2 (15 - t) in
    inr (omega arith))
    (λ (g : 16 ≤ t). inl (omega (arith, pow_mono g)))
    (lt-or-le t 16))

-- ---- the next number

-- n is the next larger number than e with as many ones under the mask k, and no farther than 2 ^ p
pub record Next (k p e n : ℕ) : Type 0 where
  pub above : e < n
  pub near : n ≤ e + 2 ^ p
  pub alike : ones (bit_and n k) ≡ ones (bit_and e k)
  pub none : (x : ℕ) → e < x → x < n → ones (bit_and x k) ≡ ones (bit_and e k) → ⊥

-- e has a 0 at place p, above the digits l; the mask has K from p on, and v below. l has every digit that it can have without the lowest ones of v, which are z
module _ (p h l K v t z : ℕ) (hv : v < 2 ^ p) (full : suc (l + z) ≡ 2 ^ p) (part : z ≡ v % 2 ^ t) where
  -- more than l is more ones
  last : (x : ℕ) → l < x → x < 2 ^ p → ones (bit_and l v) < ones (bit_and x v)
  last x a b =
      let y = 2 ^ p - suc x in
      let other : suc (x + y) ≡ 2 ^ p = omega arith in
      let small : y < v % 2 ^ t = omega arith in
      omega (arith, ones_complement p v x y other hv, ones_complement p v l z full hv, ones-least v t y small, ap (λ (n : ℕ). ones (bit_and n v)) part, ap ones (and_part v t))

  under_low : (x : ℕ) → x < 2 ^ p → ones (bit_and x (K * 2 ^ p + v)) ≡ ones (bit_and x v)
  under_low x hx = ap ones (and_below (K * 2 ^ p + v) p x hx ∙ ap (bit_and x) (low K p hv))

  carried : (y s : ℕ) → y ≡ (K * 2 ^ p + v) % 2 ^ s → ones y + K % 2 ≡ ones (bit_and l v) → Next (K * 2 ^ p + v) p (h * 2 * 2 ^ p + l) ((h * 2 + 1) * 2 ^ p + y)
  carried y s y-is many =
      let k = K * 2 ^ p + v in
      let hl : l < 2 ^ p = omega arith in
      let least : (x : ℕ) → x < y → ones (bit_and x k) < ones y = λ x g. omega (arith, ones-least k s x (omega arith), ap ones y-is) in
      let own : ones (bit_and y k) ≡ ones y = ap (λ (n : ℕ). ones (bit_and n k)) y-is ∙ ap ones (and_part k s) ∙ ap ones (sym y-is) in
      let hy : y ≤ l = ⊎_elim (λ (g : l < y). absurd (omega (arith, least l g, under_low l hl))) (λ g. g) (lt-or-le l y) in
      let here = ones-parts p (h * 2) K l v hl hv in
      record {
        above = omega arith;
        near = omega arith;
        alike = omega (arith, ones-parts p (h * 2 + 1) K y v (omega arith) hv, ones_odd h K, under_low y (omega arith));
        none = λ x a b e.
            ⊎_elim
            (λ (g : x < (h * 2 + 1) * 2 ^ p).
            let u = x - h * 2 * 2 ^ p in
            let same : x ≡ h * 2 * 2 ^ p + u = omega arith in
            omega (arith, ap (λ (n : ℕ). ones (bit_and n k)) same, ones-parts p (h * 2) K u v (omega arith) hv, last u (omega arith) (omega arith)))
            (λ (g : (h * 2 + 1) * 2 ^ p ≤ x).
            let u = x - (h * 2 + 1) * 2 ^ p in
            let same : x ≡ (h * 2 + 1) * 2 ^ p + u = omega arith in
            omega (arith, ap (λ (n : ℕ). ones (bit_and n k)) same, ones-parts p (h * 2 + 1) K u v (omega arith) hv, ones_odd h K, under_low u (omega arith), least u (omega arith)))
            (lt-or-le x ((h * 2 + 1) * 2 ^ p));
      }

-- ---- the place of the carry

part_in : (k t p : ℕ) → t ≤ p → k % 2 ^ p % 2 ^ t ≡ k % 2 ^ t
part_in k t p l = let e : p ≡ p - t + t = omega arith in ap (λ (n : ℕ). k % 2 ^ n % 2 ^ t) e ∙ mod-mod-pow k (p - t) t

part_out : (k t p : ℕ) → t ≤ p → k % 2 ^ t % 2 ^ p ≡ k % 2 ^ t
part_out k t p l = mod-eq_of_lt (omega (arith, mod-lt k (pow_pos t), pow_mono l))

part_swap : (k t p : ℕ) → k % 2 ^ t % 2 ^ p ≡ k % 2 ^ p % 2 ^ t
part_swap k t p = ⊎_elim (λ (l : t < p). part_out k t p (omega arith) ∙ sym (part_in k t p (omega arith))) (λ (g : p ≤ t). part_in k p t g ∙ sym (part_out k p t g)) (lt-or-le t p)

module _ (k e t : ℕ) (f : Fills k e t) (c : Carry e (k % 2 ^ t)) where
  part : c.rest ≡ k % 2 ^ c.place % 2 ^ t
  part =
      let full = c.full in
      sym (ap (λ (n : ℕ). n % 2 ^ c.place) c.f_is ∙ low (c.over * 2) c.place (omega arith)) ∙ part_swap k t c.place

  -- where the mask has a one at the carry's place, some one below it counts
  pub some : k / 2 ^ c.place % 2 ≤ ones (bit_and c.below (k % 2 ^ c.place))
  some = ⊎_elim (λ g. inside g f.ends) (λ g. ⊎_elim (λ l. outside l) (λ l. equal (omega arith) f.ends) (lt-or-le c.place t)) (lt-or-le t c.place)
    where
      p : ℕ
      p = c.place

      v : ℕ
      v = k % 2 ^ p

      Goal : Type 0
      Goal = k / 2 ^ p % 2 ≤ ones (bit_and c.below v)

      short : k < 2 ^ p → Goal
      short l = let none = div-eq_of_lt l in omega arith

      counted : ones (bit_and c.below v) + ones (v % 2 ^ t) ≡ ones v
      counted = omega (arith, ones_complement p v c.below c.rest c.full (mod-lt k (pow_pos p)), ap (λ (n : ℕ). ones (bit_and n v)) part, ap ones (and_part v t))

      outside : p < t → Goal
      outside g = let full = c.full in omega (arith, digit_part k t p g, ap (λ (n : ℕ). n / 2 ^ p) c.f_is ∙ high (c.over * 2) p (omega arith))

      equal : t ≡ p → (k < 2 ^ t) ⊎ ((digit e t ≡ 1) × (digit k t ≡ 1)) → Goal
      equal same (inl l) = short (subst (λ (n : ℕ). k < 2 ^ n) same l)
      equal same (inr (o, _)) =
          let full = c.full in
          let one : digit e p ≡ 1 = subst (λ (n : ℕ). digit e n ≡ 1) same o in
          absurd (omega (arith, ap (λ (n : ℕ). n / 2 ^ p) c.e_is ∙ high (c.above * 2) p (omega arith)))

      inside : t < p → (k < 2 ^ t) ⊎ ((digit e t ≡ 1) × (digit k t ≡ 1)) → Goal
      inside g (inl l) = short (omega (arith, pow-lt g))
      inside g (inr (_, o)) = omega (arith, counted, digit_part k p t g, ap ones (split v t), ones_cat t (v / 2 ^ t) (v % 2 ^ t) (mod-lt v (pow_pos t)), ones_step (v / 2 ^ t))

  -- the carry's place with a one, and below it the lowest of the mask's ones that are missing
  pub carried_from : (y s : ℕ) → y ≡ k % 2 ^ s → ones y + k / 2 ^ c.place % 2 ≡ ones (bit_and c.below (k % 2 ^ c.place)) → Next k c.place e ((c.above * 2 + 1) * 2 ^ c.place + y)
  carried_from y s y-is many =
      let p = c.place in
      let whole = split k p in
      let n = carried p c.above c.below (k / 2 ^ p) (k % 2 ^ p) t c.rest (mod-lt k (pow_pos p)) c.full part y s (y-is ∙ ap (λ (m : ℕ). m % 2 ^ s) (sym whole)) many in
      subst (λ (m : ℕ). Next k p m ((c.above * 2 + 1) * 2 ^ p + y)) (sym c.e_is)
      (subst (λ (m : ℕ). Next m p (c.above * 2 * 2 ^ p + c.below) ((c.above * 2 + 1) * 2 ^ p + y)) whole n)
