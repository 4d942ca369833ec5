-- The ones that a number has under a mask: digit by digit, and of its complement; a mask's lowest ones are the smallest number that has as many. Assumes nothing.
use mathlib.Core.Path.{◌≡◌, refl, sym, ap, ap₂, ◌∙◌}
use mathlib.Core.Logic.{◌⊎◌, inl, inr}
use Prim.Native.Nat.{ℕ, zero, suc, ◌+◌, ◌*◌, ◌/◌, ◌%◌, ◌^◌, ◌≤◌, ◌<◌, min}
use native.Mathlib.Nat.{pow-suc, mod-lt, mod-eq_of_lt}
use native.Mathlib.Omega.{arith}
use lib.Arith.{bin_ind}
use lib.Bits.{bit_and, and_step, and_self, and_zero_r, and_le_l, and_mod, and_block, and_lt}
use lib.Count.{ones, ones_step, ones_cat}
use lib.Pow.{pow_pos}
use Rattle.theory.proofs.Tests.{lt-or-le}

pub no_ones : ones 0 ≡ 0
unfolding ones
no_ones = refl

ones_and : (x y : ℕ) → ones (bit_and x y) ≡ min (x % 2) (y % 2) + ones (bit_and (x / 2) (y / 2))
ones_and x y =
    let half : bit_and x y / 2 ≡ bit_and (x / 2) (y / 2) = omega (arith, and_step x y) in
    let low : bit_and x y % 2 ≡ min (x % 2) (y % 2) = omega (arith, and_step x y) in
    ones_step (bit_and x y) ∙ ap₂ (λ (a b : ℕ). a + b) low (ap ones half)

-- the digits from place p on, and those below it
pub ones-parts : (p a b l v : ℕ) → l < 2 ^ p → v < 2 ^ p → ones (bit_and (a * 2 ^ p + l) (b * 2 ^ p + v)) ≡ ones (bit_and a b) + ones (bit_and l v)
ones-parts p a b l v hl hv = ap ones (and_block p a b l v hl hv) ∙ ones_cat p (bit_and a b) (bit_and l v) (and_lt p l v hl hv)

-- one digit more at the bottom, and set
pub ones_odd : (h b : ℕ) → ones (bit_and (h * 2 + 1) b) ≡ b % 2 + ones (bit_and (h * 2) b)
ones_odd h b =
    let up : (h * 2 + 1) / 2 ≡ h = omega arith in
    let even : h * 2 / 2 ≡ h = omega arith in
    omega (arith, ones_and (h * 2 + 1) b, ones_and (h * 2) b, ap (λ (n : ℕ). ones (bit_and n (b / 2))) up, ap (λ (n : ℕ). ones (bit_and n (b / 2))) even)

pub ones-and-le : (x y : ℕ) → ones (bit_and x y) ≤ ones y
ones-and-le x y =
    bin_ind (λ (y : ℕ). (x : ℕ) → ones (bit_and x y) ≤ ones y) (λ x. rw (and_zero_r x) (omega arith)) (λ n ih x. omega (arith, ones_and x n, ones_step n, ih (x / 2))) y x

-- a smaller number has not all the ones of a mask
ones_fewer : (y x : ℕ) → x < y → ones (bit_and x y) < ones y
ones_fewer = bin_ind (λ (y : ℕ). (x : ℕ) → x < y → ones (bit_and x y) < ones y) (λ x h. absurd (omega arith)) (λ n ih x h. go n ih x h (lt-or-le (x / 2) (n / 2)))
  where
    go : (n : ℕ) → ((x : ℕ) → x < n / 2 → ones (bit_and x (n / 2)) < ones (n / 2)) → (x : ℕ) → x < n → (x / 2 < n / 2) ⊎ (n / 2 ≤ x / 2) → ones (bit_and x n) < ones n
    go n ih x h (inl l) = omega (arith, ones_and x n, ones_step n, ih (x / 2) l)
    go n ih x h (inr g) =
        let same : x / 2 ≡ n / 2 = omega arith in
        omega (arith, ones_and x n, ones_step n, ap (λ (m : ℕ). ones (bit_and m (n / 2))) same, ap ones (and_self (n / 2)))

-- the ones of a mask of p digits are those of a number and those of its complement
pub ones_complement : (p v x y : ℕ) → suc (x + y) ≡ 2 ^ p → v < 2 ^ p → ones (bit_and x v) + ones (bit_and y v) ≡ ones v
unfolding ones
ones_complement zero v x y h l =
    let none : v ≡ 0 = omega arith in
    rw (none, and_zero_r x, and_zero_r y)
ones_complement (suc p) v x y h l =
    let ih = ones_complement p (v / 2) (x / 2) (y / 2) (omega (arith, pow-suc 2 p)) (omega (arith, pow-suc 2 p)) in
    let apart : x % 2 + y % 2 ≡ 1 = omega (arith, pow-suc 2 p) in
    omega (arith, ih, ones_and x v, ones_and y v, ones_step v)

-- ---- the digits of a mask below a place

-- a number below that place meets those only
pub and_below : (v t x : ℕ) → x < 2 ^ t → bit_and x v ≡ bit_and x (v % 2 ^ t)
and_below v t x h =
    sym (mod-eq_of_lt (omega (arith, and_le_l x v))) ∙ and_mod x v t ∙ ap (λ (n : ℕ). bit_and n (v % 2 ^ t)) (mod-eq_of_lt h)

pub and_part : (v t : ℕ) → bit_and (v % 2 ^ t) v ≡ v % 2 ^ t
and_part v t = and_below v t (v % 2 ^ t) (mod-lt v (pow_pos t)) ∙ and_self (v % 2 ^ t)

-- a smaller number than those digits has fewer ones under the mask
pub ones-least : (v t x : ℕ) → x < v % 2 ^ t → ones (bit_and x v) < ones (v % 2 ^ t)
ones-least v t x h = rw (and_below v t x (omega (arith, mod-lt v (pow_pos t)))) (ones_fewer (v % 2 ^ t) x h)
