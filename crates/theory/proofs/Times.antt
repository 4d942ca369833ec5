-- How many elements of a list pass a test: that one stands in a list, and stands there once, are both told by this number. Assumes nothing.
use mathlib.Core.Path.{◌≡◌, refl, sym, ap, ap₂, ◌∙◌}
use mathlib.Core.Logic.{⊎_elim}
use mathlib.Core.Bool.{Bool, true, false, ◌&&◌, ◌||◌, and-true, and-false}
use mathlib.Core.List.{List, [], ◌∷◌, ◌++◌, map}
use Prim.Native.Nat.{ℕ, zero, suc, ◌+◌, ◌≤◌, ◌<◌}
use native.Mathlib.Nat.{add-zero}
use native.Mathlib.Omega.{arith}
use lib.Dec.{eqb, ltb}
use borrow.Author.Tests.{eq-eqb, ne_eqb, lt-ltb, le-ltb}
use Rattle.theory.specs.Lists.{sum, cat, upto, any}
use Rattle.theory.proofs.Tests.{lt-or-le, one_if}
use Rattle.theory.proofs.Sums.{sum_cong, sum-zero, sum_at}
use Rattle.theory.proofs.Counting.{only}
unfoldable pub use Rattle.theory.specs.Order.{times}

module _ {A : Type 0} where
  pub times-append : (t : A → Bool) (l k : List A) → times t (l ++ k) ≡ times t l + times t k
  unfolding times
  times-append t [] k = omega arith
  times-append t (x ∷ l) k = omega (arith, times-append t l k)

  pub times-cat : (t : A → Bool) (f : ℕ → List A) (n : ℕ) → times t (cat f n) ≡ sum (λ i. times t (f i)) n
  unfolding times cat sum
  times-cat t f zero = refl
  times-cat t f (suc n) = times-append t (cat f n) (f n) ∙ ap (λ (k : ℕ). k + times t (f n)) (times-cat t f n)

  pub times_cong : (t u : A → Bool) (l : List A) → ((x : A) → t x ≡ u x) → times t l ≡ times u l
  unfolding times
  times_cong t u [] h = refl
  times_cong t u (x ∷ l) h = ap₂ (λ (b : Bool) (k : ℕ). one_if b + k) (h x) (times_cong t u l h)

  pub times-map : {B : Type 0} (t : A → Bool) (f : B → A) (l : List B) → times t (map f l) ≡ times (λ x. t (f x)) l
  unfolding times
  times-map t f [] = refl
  times-map t f (x ∷ l) = ap (λ (k : ℕ). one_if (t (f x)) + k) (times-map t f l)

  pub times_never : (l : List A) → times (λ _. false) l ≡ 0
  unfolding times
  times_never [] = refl
  times_never (x ∷ l) = omega (arith, times_never l)

  -- some element passes where their number is not 0
  pub any-times : (t : A → Bool) (l : List A) → any t l ≡ ltb 0 (times t l)
  unfolding times any
  any-times t [] = sym (le-ltb 0 0 (omega arith))
  any-times t (x ∷ l) = more (t x) (any t l) (times t l) (any-times t l)
    where
      more : (b c : Bool) (k : ℕ) → c ≡ ltb 0 k → (b || c) ≡ ltb 0 (one_if b + k)
      more true c k e = sym (lt-ltb 0 (1 + k) (omega arith))
      more false c k e = e ∙ ap (ltb 0) (let z : k ≡ 0 + k = omega arith in z)

  times-only : (t : A → Bool) (b : Bool) (x : A) → times t (only b x) ≡ one_if (b && t x)
  unfolding times
  times-only t true x = add-zero (one_if (t x))
  times-only t false x = refl

pub times-upto : (t p : ℕ → Bool) (n : ℕ) → times t (upto p n) ≡ sum (λ i. one_if (p i && t i)) n
times-upto t p n = times-cat t (λ i. only (p i) i) n ∙ sum_cong _ _ n (λ i _. times-only t (p i) i)

-- a number stands in a filtered range once where it passes the test and lies in the range, and else never
pub once : (p : ℕ → Bool) (x n : ℕ) → times (eqb x) (upto p n) ≡ one_if (ltb x n && p x)
once p x n =
    times-upto (eqb x) p n
    ∙ ⊎_elim (λ (l : x < n).
    sum_at (λ i. one_if (p i && eqb x i)) x n (λ i _ ne. rw (ne_eqb x i (λ e. ne (sym e)), and-false)) l
    ∙ rw (eq-eqb x x refl, lt-ltb x n l) (ap one_if (and-true (p x))))
    (λ (g : n ≤ x).
    sum-zero (λ i. one_if (p i && eqb x i)) n (λ i l. rw (ne_eqb x i (λ e. omega arith), and-false)) ∙ rw (le-ltb x n g))
    (lt-or-le x n)
