-- Laws of bits, substrings and distances. Assumes nothing.
use mathlib.Core.Path.{◌≡◌, sym, ap, ap₂, ◌∙◌, subst}
use mathlib.Core.Bool.{true}
use mathlib.Core.List.{List}
use Prim.Native.Nat.{ℕ, ◌+◌, ◌*◌, ◌/◌, ◌%◌, ◌^◌, ◌≤◌, ◌<◌}
use native.Mathlib.Nat.{mod-lt, zero-lt-suc, zero-mul, mod-eq_of_lt}
use native.Mathlib.Omega.{arith}
use lib.ListN.{get_or, drop}
use lib.Pow.{shr_mod}
use lib.Seq.{get_or-take, get_or-drop}
use lib.Bits.{differ, bit_and, bit_xor}
use lib.Count.{ones}
use Rattle.theory.specs.Lists.{sum}
use Rattle.theory.proofs.Sums.{sum_cong, sum_split, sum_cuts, sum-zero, sum_grows, sum-le}
use Rattle.theory.proofs.Numbers.{number, number_cong, number_lt, number_append, number_digits, number-xor, number-under, and-bits_lt, differ_lt, differ_self, differ_sym}
use Rattle.scope.specs.declared.Shape.{Shape}
use Rattle.scope.specs.Shape.{q, listed, m, first_bit, len}
use Rattle.scope.specs.Codes.{bit, distance, distance_under, substring, code_of}
use Rattle.scope.proofs.Shapes.{facts}

pub bit-lt : (x : List ℕ) (j : ℕ) → bit x j < 2
unfolding bit
bit-lt x j = mod-lt _ (zero-lt-suc 1)

-- ---- substrings

pub substring-lt : (from len : ℕ) (x : List ℕ) → substring from len x < 2 ^ len
unfolding substring
substring-lt from len x = number_lt (λ i. bit x (from + i)) len (λ i. bit-lt x (from + i))

-- a low and a high part
pub substring-append : (from a b : ℕ) (x : List ℕ) → substring from (a + b) x ≡ substring from a x + substring (from + a) b x * 2 ^ a
unfolding substring
substring-append from a b x =
    number_append (λ i. bit x (from + i)) a b
    ∙ ap (λ (k : ℕ). number (λ i. bit x (from + i)) a + k * 2 ^ a)
    (number_cong (λ i. bit x (from + (a + i))) (λ i. bit x (from + a + i)) b (λ i l. ap (bit x) (omega arith)))

-- within one word
pub substring_word : (from len : ℕ) (x : List ℕ) → from % 64 + len ≤ 64 → substring from len x ≡ get_or x (from / 64) 0 / 2 ^ (from % 64) % 2 ^ len
unfolding substring bit
substring_word from len x h =
    number_cong (λ i. bit x (from + i)) (λ i. get_or x (from / 64) 0 / 2 ^ (from % 64 + i) % 2) len
    (λ i l. ap₂ (λ (k o : ℕ). get_or x k 0 / 2 ^ o % 2) (omega arith) (omega arith))
    ∙ number_digits (get_or x (from / 64) 0) (from % 64) len

-- from one word into the next: the highest bits of the first, then the lowest of the next
pub substring_cross : (from low high : ℕ) (x : List ℕ) → from % 64 + low ≡ 64 → high ≤ 64 → get_or x (from / 64) 0 < 2 ^ 64
    → substring from (low + high) x ≡ get_or x (from / 64) 0 / 2 ^ (from % 64) + get_or x (from / 64 + 1) 0 % 2 ^ high * 2 ^ low
substring_cross from low high x e l h =
    let whole : 64 ≡ low + from % 64 = omega arith in
    let first : substring from low x ≡ get_or x (from / 64) 0 / 2 ^ (from % 64) =
    substring_word from low x (omega arith) ∙ shr_mod low (from % 64) (subst (λ (k : ℕ). get_or x (from / 64) 0 < 2 ^ k) whole h) in
    let o : (from + low) % 64 ≡ 0 = omega arith in
    let k : (from + low) / 64 ≡ from / 64 + 1 = omega arith in
    let next : substring (from + low) high x ≡ get_or x (from / 64 + 1) 0 % 2 ^ high =
    substring_word (from + low) high x (omega arith) ∙ rw (o, k) (ap (λ (n : ℕ). n % 2 ^ high) (omega arith)) in
    substring-append from low high x ∙ ap₂ (λ (a b : ℕ). a + b * 2 ^ low) first next

-- a whole word
substring-whole : (k : ℕ) (x : List ℕ) → get_or x k 0 < 2 ^ 64 → substring (64 * k) 64 x ≡ get_or x k 0
substring-whole k x h =
    let i : 64 * k / 64 ≡ k = omega arith in
    let o : 64 * k % 64 ≡ 0 = omega arith in
    substring_word (64 * k) 64 x (omega arith) ∙ rw (i, o) (omega (arith, mod-eq_of_lt h))

-- the bits that differ in a substring are the ones of the exclusive-or
substring-xor : (from len : ℕ) (x y : List ℕ)
    → sum (λ i. differ (bit x (from + i)) (bit y (from + i))) len ≡ ones (bit_xor (substring from len x) (substring from len y))
unfolding substring
substring-xor from len x y =
    sym (number-xor (λ i. bit x (from + i)) (λ i. bit y (from + i)) len (λ i. bit-lt x (from + i)) (λ i. bit-lt y (from + i)))

-- ---- distance

-- over any cut of the bits into substrings, the distance is the sum of the substrings' distances
pub distance_cuts : (len : ℕ → ℕ) (m : ℕ) (x y : List ℕ)
    → distance (sum len m) x y ≡ sum (λ z. ones (bit_xor (substring (sum len z) (len z) x) (substring (sum len z) (len z) y))) m
unfolding distance
distance_cuts len m x y =
    sum_cuts (λ j. differ (bit x j) (bit y j)) len m ∙ sum_cong _ _ m (λ z l. substring-xor (sum len z) (len z) x y)

-- over the tables of a listed shape
pub distance-tables : (sh : Shape) → listed sh ≡ true → (x y : List ℕ)
    → distance (q sh) x y ≡ sum (λ z. ones (bit_xor (substring (first_bit sh z) (len sh z) x) (substring (first_bit sh z) (len sh z) y))) (m sh)
distance-tables sh h x y =
    let f = facts sh h in
    ap (λ (k : ℕ). distance k x y) (sym f.whole) ∙ distance_cuts (len sh) (m sh) x y
    ∙ sum_cong _ _ (m sh) (λ z l. ap (λ (from : ℕ). ones (bit_xor (substring from (len sh z) x) (substring from (len sh z) y))) (sym (f.cut z)))

-- ---- distance under a mask

-- the bits of a substring that the mask has and that differ are the ones of the exclusive-or under the mask's substring
substring-under : (from len : ℕ) (mask x y : List ℕ)
    → sum (λ i. differ (bit x (from + i)) (bit y (from + i)) * bit mask (from + i)) len
    ≡ ones (bit_and (bit_xor (substring from len x) (substring from len y)) (substring from len mask))
unfolding substring
substring-under from len mask x y =
    sym (number-under (λ i. bit x (from + i)) (λ i. bit y (from + i)) (λ i. bit mask (from + i)) len (λ i. bit-lt x (from + i)) (λ i. bit-lt y (from + i)) (λ i. bit-lt mask (from + i)))

-- the same over any cut, and over the tables
pub under_cuts : (mask : List ℕ) (len : ℕ → ℕ) (m : ℕ) (x y : List ℕ)
    → distance_under mask (sum len m) x y
    ≡ sum (λ z. ones (bit_and (bit_xor (substring (sum len z) (len z) x) (substring (sum len z) (len z) y)) (substring (sum len z) (len z) mask))) m
unfolding distance_under
under_cuts mask len m x y =
    sum_cuts (λ j. differ (bit x j) (bit y j) * bit mask j) len m ∙ sum_cong _ _ m (λ z l. substring-under (sum len z) (len z) mask x y)

pub under-tables : (sh : Shape) → listed sh ≡ true → (mask x y : List ℕ)
    → distance_under mask (q sh) x y
    ≡ sum (λ z. ones (bit_and (bit_xor (substring (first_bit sh z) (len sh z) x) (substring (first_bit sh z) (len sh z) y)) (substring (first_bit sh z) (len sh z) mask))) (m sh)
under-tables sh h mask x y =
    let f = facts sh h in
    ap (λ (k : ℕ). distance_under mask k x y) (sym f.whole) ∙ under_cuts mask (len sh) (m sh) x y
    ∙ sum_cong _ _ (m sh)
    (λ z l. ap (λ (from : ℕ). ones (bit_and (bit_xor (substring from (len sh z) x) (substring from (len sh z) y)) (substring from (len sh z) mask))) (sym (f.cut z)))

module _ (mask x y : List ℕ) where
  one_at : (j : ℕ) → differ (bit x j) (bit y j) * bit mask j ≤ 1
  one_at j = omega (arith, and-bits_lt _ _ (differ_lt (bit x j) (bit y j) (bit-lt x j) (bit-lt y j)) (bit-lt mask j))

  pub under-le : (q : ℕ) → distance_under mask q x y ≤ q
  unfolding distance_under
  under-le q = omega (arith, sum-le (λ j. differ (bit x j) (bit y j) * bit mask j) 1 q (λ j l. one_at j))

  -- over fewer bits it is no larger
  pub under_mono : (a b : ℕ) → a ≤ b → distance_under mask a x y ≤ distance_under mask b x y
  unfolding distance_under
  under_mono a b h = sum_grows (λ j. differ (bit x j) (bit y j) * bit mask j) a b h

  pub under_sym : (q : ℕ) → distance_under mask q x y ≡ distance_under mask q y x
  unfolding distance_under
  under_sym q = sum_cong _ _ q (λ j l. ap (λ (d : ℕ). d * bit mask j) (differ_sym (bit x j) (bit y j)))

  -- no bits, and one word more
  pub under_none : distance_under mask 0 x y ≡ 0
  unfolding distance_under
  under_none = sum-zero (λ j. differ (bit x j) (bit y j) * bit mask j) 0 (λ j l. absurd (omega arith))

  pub under_word : (k : ℕ) → get_or x k 0 < 2 ^ 64 → get_or y k 0 < 2 ^ 64 → get_or mask k 0 < 2 ^ 64
      → distance_under mask (64 * (k + 1)) x y ≡ distance_under mask (64 * k) x y + ones (bit_and (bit_xor (get_or x k 0) (get_or y k 0)) (get_or mask k 0))
  unfolding distance_under
  under_word k hx hy hm =
      ap (λ (n : ℕ). distance_under mask n x y) (omega arith)
      ∙ sum_split (λ j. differ (bit x j) (bit y j) * bit mask j) (64 * k) 64
      ∙ ap (λ (n : ℕ). distance_under mask (64 * k) x y + n)
      (substring-under (64 * k) 64 mask x y ∙ rw (substring-whole k x hx, substring-whole k y hy, substring-whole k mask hm))

pub under_self : (mask : List ℕ) (q : ℕ) (x : List ℕ) → distance_under mask q x x ≡ 0
unfolding distance_under
under_self mask q x = sum-zero (λ j. differ (bit x j) (bit x j) * bit mask j) q (λ j l. ap (λ (d : ℕ). d * bit mask j) (differ_self (bit x j)) ∙ zero-mul (bit mask j))

-- ---- entries

-- word k of entry i's code
pub code_of_word : (w : ℕ) (codes : List ℕ) (i k : ℕ) → k < w → get_or (code_of w codes i) k 0 ≡ get_or codes (i * w + k) 0
unfolding code_of
code_of_word w codes i k h = get_or-take w (drop (i * w) codes) k 0 h ∙ get_or-drop (i * w) codes k 0
