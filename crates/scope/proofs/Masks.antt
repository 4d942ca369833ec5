-- Where every bit counts: a question without a mask is 01's. Assumes nothing.
use Rattle.std.proofs.lemmas.Nat.Bits.{bit_at_ones}
use mathlib.Core.Path.{◌≡◌, refl, ap, ◌∙◌}
use mathlib.Core.Bool.{true}
use mathlib.Core.List.{List, ◌++◌, map}
use Prim.Native.Nat.{ℕ, zero, suc, ◌+◌, ◌-◌, ◌*◌, ◌/◌, ◌%◌, ◌^◌, ◌≤◌, ◌<◌}
use native.Mathlib.Nat.{mod-lt, mod-eq_of_lt, mul-one, one-mul, two-pow-succ, zero-lt-suc}
use native.Mathlib.Omega.{arith}
use lib.Bits.{differ, bit_and, bit_xor, and_mask}
use lib.Count.{ones, ones-ones}
use lib.Dec.{eqb}
use lib.ListN.{length}
use borrow.Author.Tests.{eq-eqb}
use Rattle.theory.specs.Lists.{sum, upto}
use Rattle.theory.proofs.Counting.{upto_cong}
use Rattle.theory.proofs.Lists.{length-tab, get_d_tab}
use Rattle.theory.proofs.Numbers.{number, number-suc, number_cong}
use Rattle.theory.proofs.Sums.{sum_cong}
use Rattle.scope.specs.declared.Refusal.{Refusal}
use Rattle.scope.specs.declared.Shape.{Shape}
use Rattle.scope.specs.Codes.{bit, distance, distance_under, substring, code_of}
use Rattle.scope.specs.Shape.{q, listed, m, first_bit, len, size}
use Rattle.scope.specs.Tables.{Index}
use Rattle.scope.specs.Walk.{open_after, open_after_under, all_ones, question, distance_of, opens}
use Rattle.scope.specs.Refusals.{unless, one_to_three, one_to_five, wrong_query, above, few_marks}
use Rattle.scope.proofs.Shapes.{Facts, facts, in_code}

-- ---- a mask of ones

-- it is w words long
pub all_ones-long : (w : ℕ) → length (all_ones w) ≡ w
all_ones-long w = length-tab (λ _. 2 ^ 64 - 1) w

one_bit : (w j : ℕ) → j < 64 * w → bit (all_ones w) j ≡ 1
unfolding bit
one_bit w j h =
    ap (λ (x : ℕ). x / 2 ^ (j % 64) % 2) (get_d_tab (λ _. 2 ^ 64 - 1) 0 w (j / 64) (omega arith)) ∙ bit_at_ones 64 (j % 64) (mod-lt j (zero-lt-suc 63))

ones_number : (n : ℕ) → suc (number (λ _. 1) n) ≡ 2 ^ n
unfolding sum
ones_number zero = refl
ones_number (suc n) = omega (arith, number-suc (λ _. 1) n, ones_number n, two-pow-succ n)

-- and so is each substring of it
pub all_ones-under : (w from len : ℕ) → from + len ≤ 64 * w → substring from len (all_ones w) ≡ 2 ^ len - 1
unfolding substring
all_ones-under w from len h =
    number_cong (λ i. bit (all_ones w) (from + i)) (λ _. 1) len (λ i l. one_bit w (from + i) (omega arith)) ∙ omega (arith, ones_number len)

-- ---- what a question without a mask asks

-- distance is the count of bits that differ
pub plain_distance : (x : Index) (query : List ℕ) (i : ℕ) → distance_of (question x query) i ≡ distance (q x.shape) (code_of x.shape.w x.codes i) query
unfolding distance distance_under
plain_distance x query i =
    let code = code_of x.shape.w x.codes i in
    sum_cong _ _ (q x.shape) (λ j l. ap (λ (b : ℕ). differ (bit code j) (bit query j) * b) (one_bit x.shape.w j l) ∙ mul-one _)

module _ (sh : Shape) (f : Facts sh) (z : ℕ) (h : z < m sh) where
  whole : substring (first_bit sh z) (len sh z) (all_ones sh.w) ≡ 2 ^ len sh z - 1
  whole = all_ones-under sh.w (first_bit sh z) (len sh z) (in_code sh f z h)

  -- every bit of the substring counts
  pub all_ones-count : ones (substring (first_bit sh z) (len sh z) (all_ones sh.w)) ≡ len sh z
  all_ones-count = ap ones whole ∙ ones-ones (len sh z)

  pub every_bit : (e : ℕ) → e < size sh z → ones (bit_and e (substring (first_bit sh z) (len sh z) (all_ones sh.w))) ≡ ones e
  every_bit e l = rw whole (ap ones (and_mask e (len sh z) ∙ mod-eq_of_lt l))

-- step R = m·r' + a opens in table a every bucket whose number differs from the query's substring in exactly r' bits, ascending by the exclusive-or
pub plain_opens : (x : Index) (query : List ℕ) (R : ℕ) → listed x.shape ≡ true
    → opens (question x query) R
    ≡ (let sh = x.shape in
    let a = R % m sh in
    map (λ e. (a, bit_xor (substring (first_bit sh a) (len sh a) query) e)) (upto (λ e. eqb (ones e) (R / m sh)) (size sh a)))
unfolding opens
plain_opens x query R ls =
    let sh = x.shape in
    let a = R % m sh in
    let f = facts sh ls in
    ap (map (λ e. (a, bit_xor (substring (first_bit sh a) (len sh a) query) e)))
    (upto_cong _ _ (size sh a) (λ e l. ap (λ (r : ℕ). eqb r (R / m sh)) (every_bit sh f a (mod-lt R f.some_tables) e l)))

-- radius ρ costs L(len z, ρ) buckets of table z
pub plain_open_after : (sh : Shape) (R : ℕ) → listed sh ≡ true → open_after_under sh (all_ones sh.w) R ≡ open_after sh R
unfolding open_after open_after_under
plain_open_after sh R ls =
    let f = facts sh ls in
    sum_cong _ _ (m sh) (λ z l.
    let none : len sh z - len sh z ≡ 0 = omega arith in
    rw (all_ones-count sh f z l, none) (one-mul _))

-- and its refusals are those of its index, its query, its limits and its marks
pub plain_refusals : {A : Type 0} (x : Index) (query limits marks : List ℕ) (refused : Refusal → A) (answer : A)
    → unless (one_to_five x query (all_ones x.shape.w) limits marks) refused answer
    ≡ unless (one_to_three x ++ wrong_query x.shape query ++ above x.shape limits ++ few_marks x marks) refused answer
unfolding unless
plain_refusals x query limits marks refused answer = rw (eq-eqb (length (all_ones x.shape.w)) x.shape.w (all_ones-long x.shape.w)) refl
