-- The binary digits of a number: of `or`, of `and`, of a part, of a power of two; numbers with the same digits are equal; the lowest digit that is 1. Assumes nothing.
use mathlib.Core.Path.{◌≡◌, refl, sym, ap, ap₂, ◌∙◌}
use mathlib.Core.Logic.{◌⊎◌, inl, inr, ⊎_elim}
use Prim.Native.Nat.{ℕ, zero, suc, ◌+◌, ◌-◌, ◌*◌, ◌/◌, ◌%◌, ◌^◌, ◌≤◌, ◌<◌, max, min}
use native.Mathlib.Nat.{div-eq_of_lt, mod-eq_of_lt, max-le, one-mul, mul-mod_left, pow-suc}
use native.Mathlib.Numerals.{one-add}
use native.Mathlib.Omega.{arith}
use lib.Arith.{bin_ind}
use lib.Dec.{eqb}
use lib.Bits.{bit_or, or_shr, or_step, bit_and, and_shr, and_step, shifted_half, shifted_even}
use lib.Count.{count_trailing_zeros, under}
use lib.Pow.{pow-add, pow-lt, pow_mono, shl-shr, shr-shr, low, mod-pow-add, field, mod-mod-pow}
use borrow.Author.Tests.{eq-eqb, ne_eqb}
use Rattle.theory.proofs.Tests.{eq-or_ne, lt-or-le, one_if}

abbrev pub digit : ℕ → ℕ → ℕ
digit a j = a / 2 ^ j % 2

pub digit_or : (a b j : ℕ) → digit (bit_or a b) j ≡ max (digit a j) (digit b j)
digit_or a b j =
    let x = a / 2 ^ j in
    let y = b / 2 ^ j in
    let small : max (x % 2) (y % 2) ≤ 1 = max-le (omega arith) (omega arith) in
    ap (λ (n : ℕ). n % 2) (or_shr a b j ∙ or_step x y) ∙ low (bit_or (x / 2) (y / 2)) 1 (omega arith)

-- digit k + 1 of x is digit k of its half
pub digit-suc : (x k : ℕ) → digit x (suc k) ≡ digit (x / 2) k
digit-suc x k = sym (ap (λ (y : ℕ). y % 2) (shr-shr x 1 k ∙ ap (λ (j : ℕ). x / 2 ^ j) (one-add k)))

pub digit_and : (x y k : ℕ) → digit (bit_and x y) k ≡ min (digit x k) (digit y k)
digit_and x y k =
    ap (λ (z : ℕ). z % 2) (and_shr x y k ∙ and_step (x / 2 ^ k) (y / 2 ^ k))
    ∙ omega arith

-- a digit below place t is a digit of what is below t
pub digit_part : (x t p : ℕ) → p < t → digit (x % 2 ^ t) p ≡ digit x p
digit_part x t p l =
    let j = t - suc p in
    let e : t ≡ suc j + p = omega arith in
    let f : suc j ≡ j + 1 = omega arith in
    ap (λ (n : ℕ). digit (x % 2 ^ n) p) e ∙ ap (λ (n : ℕ). n % 2) (field x (suc j) p ∙ ap (λ (n : ℕ). x / 2 ^ p % 2 ^ n) f) ∙ mod-mod-pow (x / 2 ^ p) j 1

-- the one digit of 2 ^ i
pub digit_power : (i j : ℕ) → digit (2 ^ i) j ≡ one_if (eqb j i)
digit_power i j = ⊎_elim same other (eq-or_ne j i)
  where
    same : j ≡ i → digit (2 ^ i) j ≡ one_if (eqb j i)
    same e =
        let one : digit (2 ^ j) j ≡ 1 = ap (λ (n : ℕ). n / 2 ^ j % 2) (sym (one-mul (2 ^ j))) ∙ ap (λ (n : ℕ). n % 2) (shl-shr 1 j) in
        rw (eq-eqb j i e, ← e) one

    other : (j ≡ i → ⊥) → digit (2 ^ i) j ≡ one_if (eqb j i)
    other ne =
        rw (ne_eqb j i ne)
        (⊎_elim (λ l. ap (λ (n : ℕ). n % 2) (div-eq_of_lt (pow-lt l)))
        (λ g.
        let d = i - suc j in
        let e : i ≡ suc d + j = omega arith in
        rw (e, pow-add, shl-shr (2 ^ suc d) j, pow-suc) (mul-mod_left (2 ^ d) 2))
        (lt-or-le i j))

lt_power : (n : ℕ) → n < 2 ^ n
lt_power zero = omega arith
lt_power (suc n) = omega (arith, lt_power n, pow-suc 2 n)

low_digits : (a b n : ℕ) → ((j : ℕ) → digit a j ≡ digit b j) → a % 2 ^ n ≡ b % 2 ^ n
low_digits a b zero h = omega arith
low_digits a b (suc n) h =
    let one : suc n ≡ 1 + n = omega arith in
    rw one
    (mod-pow-add a 1 n ∙ ap₂ (λ (high rest : ℕ). high * 2 ^ n + rest) (h n) (low_digits a b n h) ∙ sym (mod-pow-add b 1 n))

pub same_digits : (a b : ℕ) → ((j : ℕ) → digit a j ≡ digit b j) → a ≡ b
same_digits a b h =
    sym (mod-eq_of_lt (below a (omega arith))) ∙ low_digits a b (a + b) h ∙ mod-eq_of_lt (below b (omega arith))
  where
    below : (c : ℕ) → c ≤ a + b → c < 2 ^ (a + b)
    below c l = omega (arith, lt_power c, pow_mono l)

-- ---- the lowest digit that is 1

-- digit t is the lowest that is 1 in x, and is not in x - 1; above it the two are alike
pub record Lowest (x t : ℕ) : Type 0 where
  pub below : (k : ℕ) → k < t → digit x k ≡ 0
  pub here : digit x t ≡ 1
  pub gone : digit (x - 1) t ≡ 0
  pub above : (k : ℕ) → t < k → digit (x - 1) k ≡ digit x k

pub lowest : (w x : ℕ) → 0 < x → x < 2 ^ w → Lowest x (count_trailing_zeros w x)
unfolding count_trailing_zeros
lowest zero x p l = absurd (omega arith)
lowest (suc w) x p l = go (x % 2) refl (λ e. lowest w (x / 2) (omega arith) (omega (arith, pow-suc 2 w)))
  where
    go : (r : ℕ) → x % 2 ≡ r → (x % 2 ≡ 0 → Lowest (x / 2) (count_trailing_zeros w (x / 2))) → Lowest x (under r (count_trailing_zeros w (x / 2)))
    go zero e ih =
        let half : (x - 1) / 2 ≡ x / 2 - 1 = omega arith in
        let less : (k : ℕ) → digit (x - 1) (suc k) ≡ digit (x / 2 - 1) k = λ k. digit-suc (x - 1) k ∙ ap (λ (y : ℕ). digit y k) half in
        record {
          below = elim [ zero ↦ λ h. omega arith | suc k ↦ λ h. digit-suc x k ∙ (ih e).below k (omega arith) ];
          here = digit-suc x _ ∙ (ih e).here;
          gone = less _ ∙ (ih e).gone;
          above = elim [ zero ↦ λ h. absurd (omega arith) | suc k ↦ λ h. less k ∙ (ih e).above k (omega arith) ∙ sym (digit-suc x k) ];
        }
    go (suc r) e ih =
        let half : (x - 1) / 2 ≡ x / 2 = omega arith in
        record {
          below = λ k h. absurd (omega arith);
          here = omega arith;
          gone = omega arith;
          above = elim [ zero ↦ λ h. absurd (omega arith) | suc k ↦ λ h. digit-suc (x - 1) k ∙ ap (λ (y : ℕ). digit y k) half ∙ sym (digit-suc x k) ];
        }

-- what is left without it is of the number
pub still_set : (x k : ℕ) → digit (bit_and x (x - 1)) k ≡ 1 → digit x k ≡ 1
still_set x k e = omega (arith, digit_and x (x - 1) k)

-- a number other than 0 is an odd one, shifted up by its trailing zeros
pub odd_part : (x : ℕ) → 0 < x → (b : ℕ) × (t : ℕ) × (x ≡ (b * 2 + 1) * 2 ^ t)
odd_part = bin_ind (λ (x : ℕ). 0 < x → (b : ℕ) × (t : ℕ) × (x ≡ (b * 2 + 1) * 2 ^ t)) (λ h. absurd (omega arith)) (λ n ih h. go n ih h (lt-or-le 0 (n % 2)))
  where
    go : (n : ℕ) → (0 < n / 2 → (b : ℕ) × (t : ℕ) × (n / 2 ≡ (b * 2 + 1) * 2 ^ t)) → 0 < n → (0 < n % 2) ⊎ (n % 2 ≤ 0) → (b : ℕ) × (t : ℕ) × (n ≡ (b * 2 + 1) * 2 ^ t)
    go n ih h (inl l) = (n / 2, 0, omega arith)
    go n ih h (inr g) = let (b, t, e) = ih (omega arith) in (b, suc t, omega (arith, ap (λ (q : ℕ). (b * 2 + 1) * q) (pow-suc 2 t)))

pub trailing_odd : (w b t : ℕ) → t < w → count_trailing_zeros w ((b * 2 + 1) * 2 ^ t) ≡ t
unfolding count_trailing_zeros
trailing_odd zero b t h = absurd (omega arith)
trailing_odd (suc w) b zero h = let odd : (b * 2 + 1) * 2 ^ 0 % 2 ≡ 1 = omega arith in rw odd
trailing_odd (suc w) b (suc t) h = rw (shifted_even, shifted_half) (ap suc (trailing_odd w b t (omega arith)))
