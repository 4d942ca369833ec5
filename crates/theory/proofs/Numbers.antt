-- Numbers put together from bits: their bound, their ones, operations on their bits, and the bits taken out again. Assumes nothing.
use mathlib.Core.Path.{◌≡◌, refl, sym, ap, ap₂, ◌∙◌}
use Prim.Native.Nat.{ℕ, zero, suc, ◌+◌, ◌*◌, ◌/◌, ◌%◌, ◌^◌, ◌<◌}
use native.Mathlib.Nat.{add_comm, add-zero, add-suc, add-mul, mul_assoc, mul_comm, mod-one, pow-suc, one-mul, lt_of_le_of_lt, le_of_lt, mul-le-mul_left}
use native.Mathlib.Numerals.{one-add}
use native.Mathlib.Omega.{arith}
use lib.Arith.{digits_lt}
use lib.Pow.{pow-add, mod-pow-add, shr-shr, shl_exact, shl_lt}
use lib.Bits.{differ, bit_and, bit_xor, and_block, xor_block}
use lib.Count.{ones, ones_cat}
use Rattle.theory.specs.Lists.{sum}
use Rattle.theory.proofs.Sums.{sum-suc, sum_cong}

-- the code's `1 << n`
pub one_shl : (n : ℕ) → n < 64 → 1 * 2 ^ n % 2 ^ 64 ≡ 2 ^ n
one_shl n h = shl_exact 1 n 64 (omega arith) (omega arith) ∙ one-mul (2 ^ n)

-- a product has at most the bits of both factors
pub product_lt : (j k : ℕ) {a b : ℕ} → a < 2 ^ j → b < 2 ^ k → a * b < 2 ^ (j + k)
product_lt j k {a} p q = lt_of_le_of_lt (mul-le-mul_left a (le_of_lt q)) (shl_lt j k p)

-- the number of n bits whose bit i is f i, low bit first
abbrev pub number : (ℕ → ℕ) → ℕ → ℕ
number f n = sum (λ i. f i * 2 ^ i) n

abbrev pub Bits : (ℕ → ℕ) → Type 0
Bits f = (i : ℕ) → f i < 2

-- the highest bit first
pub number-suc : (f : ℕ → ℕ) (n : ℕ) → number f (suc n) ≡ f n * 2 ^ n + number f n
number-suc f n = sum-suc (λ i. f i * 2 ^ i) n ∙ add_comm (number f n) (f n * 2 ^ n)

pub number_cong : (f g : ℕ → ℕ) (n : ℕ) → ((i : ℕ) → i < n → f i ≡ g i) → number f n ≡ number g n
number_cong f g n h = sum_cong (λ i. f i * 2 ^ i) (λ i. g i * 2 ^ i) n (λ i l. ap (λ (b : ℕ). b * 2 ^ i) (h i l))

pub number_lt : (f : ℕ → ℕ) (n : ℕ) → Bits f → number f n < 2 ^ n
unfolding sum
number_lt f zero h = omega arith
number_lt f (suc n) h = omega (arith, number-suc f n, pow-suc 2 n, digits_lt (h n) (number_lt f n h))

-- a low and a high part
pub number_append : (f : ℕ → ℕ) (a b : ℕ) → number f (a + b) ≡ number f a + number (λ i. f (a + i)) b * 2 ^ a
unfolding sum
number_append f a zero = ap (number f) (add-zero a) ∙ omega arith
number_append f a (suc b) =
    let g : ℕ → ℕ = λ i. f (a + i) in
    let top : number f (a + suc b) ≡ f (a + b) * 2 ^ (a + b) + number f (a + b) = ap (number f) (add-suc a b) ∙ number-suc f (a + b) in
    let power : g b * 2 ^ b * 2 ^ a ≡ f (a + b) * 2 ^ (a + b) =
    mul_assoc (g b) (2 ^ b) (2 ^ a) ∙ ap (λ (k : ℕ). g b * k) (mul_comm (2 ^ b) (2 ^ a) ∙ sym (pow-add 2 a b)) in
    let apart : number g (suc b) * 2 ^ a ≡ g b * 2 ^ b * 2 ^ a + number g b * 2 ^ a =
    ap (λ (k : ℕ). k * 2 ^ a) (number-suc g b) ∙ add-mul (g b * 2 ^ b) (number g b) (2 ^ a) in
    omega (arith, number_append f a b)

-- ---- the bits of a number

-- n bits of a from o on, put together
pub number_digits : (a o n : ℕ) → number (λ i. a / 2 ^ (o + i) % 2) n ≡ a / 2 ^ o % 2 ^ n
unfolding sum
number_digits a o zero = sym (mod-one (a / 2 ^ o))
number_digits a o (suc n) =
    number-suc (λ i. a / 2 ^ (o + i) % 2) n
    ∙ ap₂ (λ (x y : ℕ). x % 2 * 2 ^ n + y) (sym (shr-shr a o n)) (number_digits a o n)
    ∙ sym (ap (λ (k : ℕ). a / 2 ^ o % 2 ^ k) (sym (one-add n)) ∙ mod-pow-add (a / 2 ^ o) 1 n)

-- ---- ones

ones_bit : (b : ℕ) → b < 2 → ones b ≡ b
unfolding ones
ones_bit zero h = refl
ones_bit (suc zero) h = refl
ones_bit (suc (suc b)) h = absurd (omega arith)

-- a number has as many ones as its bits add up to
pub number-ones : (f : ℕ → ℕ) (n : ℕ) → Bits f → ones (number f n) ≡ sum f n
unfolding sum ones
number-ones f zero h = refl
number-ones f (suc n) h =
    ap ones (number-suc f n) ∙ ones_cat n (f n) (number f n) (number_lt f n h) ∙ add_comm (ones (f n)) (ones (number f n))
    ∙ ap₂ (λ (a b : ℕ). a + b) (number-ones f n h) (ones_bit (f n) (h n))

-- ---- operations on bits

-- an operation that works on each digit apart, as `bit_xor` and `bit_and`, works on the bits of two numbers
module _ (op : ℕ → ℕ → ℕ) (nil : op zero zero ≡ zero)
    (block : (k a b r s : ℕ) → r < 2 ^ k → s < 2 ^ k → op (a * 2 ^ k + r) (b * 2 ^ k + s) ≡ op a b * 2 ^ k + op r s) where
  pub number_op : (f g : ℕ → ℕ) (n : ℕ) → Bits f → Bits g → op (number f n) (number g n) ≡ number (λ i. op (f i) (g i)) n
  unfolding sum
  number_op f g zero hf hg = nil
  number_op f g (suc n) hf hg =
      ap₂ op (number-suc f n) (number-suc g n)
      ∙ block n (f n) (g n) (number f n) (number g n) (number_lt f n hf) (number_lt g n hg)
      ∙ ap (λ (x : ℕ). op (f n) (g n) * 2 ^ n + x) (number_op f g n hf hg)
      ∙ sym (number-suc (λ i. op (f i) (g i)) n)

-- on bits the exclusive-or is `differ`: 1 where they do, 0 where not
pub xor-bits : (a b : ℕ) → a < 2 → b < 2 → bit_xor a b ≡ differ a b
xor-bits zero b h l = refl
xor-bits (suc zero) zero h l = refl
xor-bits (suc zero) (suc zero) h l = refl
xor-bits (suc zero) (suc (suc b)) h l = absurd (omega arith)
xor-bits (suc (suc a)) b h l = absurd (omega arith)

pub differ_lt : (a b : ℕ) → a < 2 → b < 2 → differ a b < 2
differ_lt zero b h l = l
differ_lt (suc zero) zero h l = h
differ_lt (suc zero) (suc zero) h l = omega arith
differ_lt (suc zero) (suc (suc b)) h l = absurd (omega arith)
differ_lt (suc (suc a)) b h l = absurd (omega arith)

pub differ_self : (a : ℕ) → differ a a ≡ 0
differ_self zero = refl
differ_self (suc a) = differ_self a

pub differ_sym : (a b : ℕ) → differ a b ≡ differ b a
differ_sym zero zero = refl
differ_sym zero (suc b) = refl
differ_sym (suc a) zero = refl
differ_sym (suc a) (suc b) = differ_sym a b

pub number-differ : (f g : ℕ → ℕ) (n : ℕ) → Bits f → Bits g → bit_xor (number f n) (number g n) ≡ number (λ i. differ (f i) (g i)) n
number-differ f g n hf hg =
    number_op bit_xor refl xor_block f g n hf hg
    ∙ number_cong (λ i. bit_xor (f i) (g i)) (λ i. differ (f i) (g i)) n (λ i l. xor-bits (f i) (g i) (hf i) (hg i))

-- the exclusive-or has as many ones as there are bits that differ
pub number-xor : (f g : ℕ → ℕ) (n : ℕ) → Bits f → Bits g → ones (bit_xor (number f n) (number g n)) ≡ sum (λ i. differ (f i) (g i)) n
number-xor f g n hf hg =
    ap ones (number-differ f g n hf hg) ∙ number-ones (λ i. differ (f i) (g i)) n (λ i. differ_lt (f i) (g i) (hf i) (hg i))

-- on bits `bit_and` is the product: 1 where both are
and-bits : (a b : ℕ) → a < 2 → b < 2 → bit_and a b ≡ a * b
and-bits zero b h l = omega arith
and-bits (suc zero) zero h l = refl
and-bits (suc zero) (suc zero) h l = refl
and-bits (suc zero) (suc (suc b)) h l = absurd (omega arith)
and-bits (suc (suc a)) b h l = absurd (omega arith)

pub and-bits_lt : (a b : ℕ) → a < 2 → b < 2 → a * b < 2
and-bits_lt zero b h l = omega arith
and-bits_lt (suc zero) b h l = omega arith
and-bits_lt (suc (suc a)) b h l = absurd (omega arith)

-- and under a mask as many as there are bits of the mask where the two differ
pub number-under : (f g k : ℕ → ℕ) (n : ℕ) → Bits f → Bits g → Bits k
    → ones (bit_and (bit_xor (number f n) (number g n)) (number k n)) ≡ sum (λ i. differ (f i) (g i) * k i) n
number-under f g k n hf hg hk =
    let d : ℕ → ℕ = λ i. differ (f i) (g i) in
    let hd : Bits d = λ i. differ_lt (f i) (g i) (hf i) (hg i) in
    ap (λ (x : ℕ). ones (bit_and x (number k n))) (number-differ f g n hf hg)
    ∙ ap ones
    (number_op bit_and refl and_block d k n hd hk ∙ number_cong (λ i. bit_and (d i) (k i)) (λ i. d i * k i) n (λ i l. and-bits (d i) (k i) (hd i) (hk i)))
    ∙ number-ones (λ i. d i * k i) n (λ i. and-bits_lt (d i) (k i) (hd i) (hk i))
