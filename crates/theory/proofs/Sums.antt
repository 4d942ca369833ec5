-- Laws of `sum`. Assumes nothing.
use mathlib.Core.Path.{◌≡◌, refl, ap, ap₂, ◌∙◌}
use mathlib.Core.Logic.{⊎_elim}
use mathlib.Core.Bool.{cond}
use Prim.Native.Nat.{ℕ, zero, suc, ◌+◌, ◌-◌, ◌*◌, ◌≤◌, ◌<◌, min}
use native.Mathlib.Nat.{add-zero, add-suc, le_refl, eq-or-lt_of_le, le_of_suc-le-suc}
use native.Mathlib.Decide.{le_ind}
use native.Mathlib.Omega.{arith}
use lib.Dec.{ltb}
use borrow.Author.Tests.{lt-ltb, le-ltb}
use Rattle.theory.specs.Lists.{sum}
use Rattle.theory.proofs.Tests.{cond_of}

pub sum-suc : (f : ℕ → ℕ) (n : ℕ) → sum f (suc n) ≡ sum f n + f n
unfolding sum
sum-suc f n = refl

pub sum_cong : (f g : ℕ → ℕ) (n : ℕ) → ((i : ℕ) → i < n → f i ≡ g i) → sum f n ≡ sum g n
unfolding sum
sum_cong f g zero h = refl
sum_cong f g (suc n) h = ap₂ (λ (x y : ℕ). x + y) (sum_cong f g n (λ i l. h i (omega arith))) (h n (omega arith))

-- a first part and the rest
pub sum_split : (f : ℕ → ℕ) (a b : ℕ) → sum f (a + b) ≡ sum f a + sum (λ i. f (a + i)) b
unfolding sum
sum_split f a zero = rw add-zero (omega arith)
sum_split f a (suc b) = rw add-suc (omega (arith, sum_split f a b))

-- parts of unequal lengths: part z has len z terms, and starts where the parts before it end
pub sum_cuts : (f len : ℕ → ℕ) (m : ℕ) → sum f (sum len m) ≡ sum (λ z. sum (λ i. f (sum len z + i)) (len z)) m
unfolding sum
sum_cuts f len zero = refl
sum_cuts f len (suc m) = sum_split f (sum len m) (len m) ∙ ap (λ (k : ℕ). k + sum (λ i. f (sum len m + i)) (len m)) (sum_cuts f len m)

pub sum-zero : (f : ℕ → ℕ) (n : ℕ) → ((i : ℕ) → i < n → f i ≡ 0) → sum f n ≡ 0
unfolding sum
sum-zero f zero h = refl
sum-zero f (suc n) h = omega (arith, sum-zero f n (λ i l. h i (omega arith)), h n (omega arith))

pub sum_plus : (f g : ℕ → ℕ) (n : ℕ) → sum (λ i. f i + g i) n ≡ sum f n + sum g n
unfolding sum
sum_plus f g zero = refl
sum_plus f g (suc n) = omega (arith, sum_plus f g n)

pub sum_const : (c n : ℕ) → sum (λ _. c) n ≡ n * c
unfolding sum
sum_const c zero = omega arith
sum_const c (suc n) = omega (arith, sum_const c n)

pub sum-times : (f : ℕ → ℕ) (c n : ℕ) → sum (λ i. f i * c) n ≡ sum f n * c
unfolding sum
sum-times f c zero = omega arith
sum-times f c (suc n) = omega (arith, sum-times f c n)

-- all but place k are 0
pub sum_at : (f : ℕ → ℕ) (k n : ℕ) → ((i : ℕ) → i < n → (i ≡ k → ⊥) → f i ≡ 0) → k < n → sum f n ≡ f k
unfolding sum
sum_at f k zero h l = omega arith
sum_at f k (suc n) h l =
    ⊎_elim (λ (e : k ≡ n). rw e (omega (arith, sum-zero f n (λ i i<n. h i (omega arith) (omega arith)))))
    (λ (g : k < n). omega (arith, sum_at f k n (λ i i<n ne. h i (omega arith) ne) g, h n (omega arith) (omega arith)))
    (eq-or-lt_of_le (le_of_suc-le-suc l))

-- term by term; and more terms
pub sum_mono : (f g : ℕ → ℕ) (n : ℕ) → ((i : ℕ) → i < n → f i ≤ g i) → sum f n ≤ sum g n
unfolding sum
sum_mono f g zero h = le_refl 0
sum_mono f g (suc n) h = omega (arith, sum_mono f g n (λ i l. h i (omega arith)), h n (omega arith))

pub sum_grows : (f : ℕ → ℕ) (m n : ℕ) → m ≤ n → sum f m ≤ sum f n
sum_grows f m n h = le_ind (λ (k : ℕ). sum f m ≤ sum f k) (le_refl (sum f m)) (λ k _ ih. omega (arith, sum-suc f k)) n h

pub sum-le : (f : ℕ → ℕ) (b n : ℕ) → ((i : ℕ) → i < n → f i ≤ b) → sum f n ≤ n * b
sum-le f b n h = omega (arith, sum_mono f (λ _. b) n h, sum_const b n)

-- one function at the first k places, and another at the rest
pub sum_cut : (f g : ℕ → ℕ) (k n : ℕ) → sum (λ i. cond (ltb i k) (f i) (g i)) n ≡ sum f (min n k) + sum (λ i. g (min n k + i)) (n - min n k)
sum_cut f g k n =
    let first = min n k in
    let rest : n ≡ first + (n - first) = omega arith in
    let t : ℕ → ℕ = λ i. cond (ltb i k) (f i) (g i) in
    ap (sum t) rest ∙ sum_split t first (n - first)
    ∙ ap₂ (λ (x y : ℕ). x + y)
    (sum_cong t f first (λ i l. rw (lt-ltb i k (omega arith))))
    (sum_cong (λ i. t (first + i)) (λ i. g (first + i)) (n - first) (λ i l. rw (le-ltb (first + i) k (omega arith))))

-- one number there, and another at the rest
pub sum_two : (f : ℕ → ℕ) (x y k n : ℕ) → sum (λ i. f (cond (ltb i k) x y)) n + min n k * f y ≡ n * f y + min n k * f x
sum_two f x y k n =
    let first = min n k in
    let rest : n ≡ first + (n - first) = omega arith in
    let both : sum (λ i. f (cond (ltb i k) x y)) n ≡ first * f x + (n - first) * f y =
    sum_cong _ _ n (λ i _. cond_of f (ltb i k) x y) ∙ sum_cut (λ _. f x) (λ _. f y) k n ∙ ap₂ (λ (a b : ℕ). a + b) (sum_const (f x) first) (sum_const (f y) (n - first)) in
    omega (arith, both, ap (λ (j : ℕ). j * f y) rest)
