-- Tests taken apart, and counted. Assumes nothing.
use mathlib.Core.Path.{◌≡◌, refl, sym, subst, ◌∙◌}
use mathlib.Core.Logic.{◌⊎◌, inl, inr, ⊎_elim}
use mathlib.Core.Bool.{Bool, true, false, ◌&&◌, ◌||◌, cond, or-false}
use Prim.Native.Nat.{ℕ, suc, ◌+◌, ◌≤◌, ◌<◌, max}
use native.Mathlib.Nat.{eq-or-lt_of_le}
use native.Mathlib.Omega.{arith}
use lib.Dec.{T, eqb, ltb, leb}
use borrow.Author.Tests.{eqb-true, eqb-false, ltb-true, ltb-false, leb-true, eq-eqb, ne_eqb, lt-ltb, le-ltb, le-leb}
pub use Rattle.theory.specs.Order.{one_if}

-- ---- cases

pub either : (b : Bool) → (b ≡ true) ⊎ (b ≡ false)
either true = inl refl
either false = inr refl

pub lt-or-le : (a b : ℕ) → (a < b) ⊎ (b ≤ a)
lt-or-le a b = ⊎_elim (λ e. inl (ltb-true a b e)) (λ e. inr (ltb-false a b e)) (either (ltb a b))

pub eq-or_ne : (a b : ℕ) → (a ≡ b) ⊎ (a ≡ b → ⊥)
eq-or_ne a b = ⊎_elim (λ e. inl (eqb-true a b e)) (λ e. inr (eqb-false a b e)) (either (eqb a b))

-- a choice taken apart
pub split : {A P : Type 0} (t : Bool) (x y z : A) → cond t x y ≡ z → (t ≡ true → x ≡ z → P) → (t ≡ false → y ≡ z → P) → P
split true x y z h f g = f refl h
split false x y z h f g = g refl h

-- what holds of each of two, where it is chosen, holds of the choice
pub chosen : {A : Type 0} (P : A → Type 0) (t : Bool) (x y : A) → (t ≡ true → P x) → (t ≡ false → P y) → P (cond t x y)
chosen P true x y f g = f refl
chosen P false x y f g = g refl

-- a choice between the same
pub same_arms : {A : Type 0} (t : Bool) (x : A) → cond t x x ≡ x
same_arms true x = refl
same_arms false x = refl

-- a function of a choice
pub cond_of : {A B : Type 0} (f : A → B) (t : Bool) (x y : A) → f (cond t x y) ≡ cond t (f x) (f y)
cond_of f true x y = refl
cond_of f false x y = refl

-- a test does not both pass and fail
pub both_ways : {A : Type 0} → true ≡ false → A
both_ways h = elim (subst T h tt) [ ]

-- what holds of three numbers holds of one that is tested to be one of them
pub or-true : (a b : Bool) → (a || b) ≡ true → (a ≡ true) ⊎ (b ≡ true)
or-true true b h = inl refl
or-true false b h = inr h

pub one_of : (a b c x : ℕ) (P : ℕ → Type 0) → P a → P b → P c → (eqb x a || eqb x b || eqb x c) ≡ true → P x
one_of a b c x P pa pb pc h =
    ⊎_elim
    (λ ab. ⊎_elim (λ e. subst P (sym (eqb-true x a e)) pa) (λ e. subst P (sym (eqb-true x b e)) pb) (or-true (eqb x a) (eqb x b) ab))
    (λ e. subst P (sym (eqb-true x c e)) pc)
    (or-true (eqb x a || eqb x b) (eqb x c) h)

-- ---- and, or

pub or_left : (a b : Bool) → a ≡ true → (a || b) ≡ true
or_left true b h = refl
or_left false b h = both_ways (sym h)

pub or_right : (a b : Bool) → b ≡ true → (a || b) ≡ true
or_right true b h = refl
or_right false b h = h

pub or_swap : (a b c : Bool) → (a || b || c) ≡ (a || c || b)
or_swap true b c = refl
or_swap false true true = refl
or_swap false true false = refl
or_swap false false c = sym (or-false c)

pub or-false_left : (a b : Bool) → (a || b) ≡ false → a ≡ false
or-false_left true b h = h
or-false_left false b h = refl

pub or-false_right : (a b : Bool) → (a || b) ≡ false → b ≡ false
or-false_right true b h = both_ways h
or-false_right false b h = h

pub and_left : (a b : Bool) → (a && b) ≡ true → a ≡ true
and_left true b h = refl
and_left false b h = h

pub and_right : (a b : Bool) → (a && b) ≡ true → b ≡ true
and_right true b h = h
and_right false b h = both_ways (sym h)

-- two tests that hold of the same cases are one
pub same_test : (a b : Bool) → (a ≡ true → b ≡ true) → (b ≡ true → a ≡ true) → a ≡ b
same_test true b f g = sym (f refl)
same_test false true f g = both_ways (sym (g refl))
same_test false false f g = refl

pub eqb_iff : (a b c d : ℕ) → (a ≡ b → c ≡ d) → (c ≡ d → a ≡ b) → eqb a b ≡ eqb c d
eqb_iff a b c d f g = same_test (eqb a b) (eqb c d) (λ e. eq-eqb c d (f (eqb-true a b e))) (λ e. eq-eqb a b (g (eqb-true c d e)))

-- at most R is below R + 1
pub leb_is_ltb : (a R : ℕ) → leb a R ≡ ltb a (suc R)
leb_is_ltb a R =
    same_test (leb a R) (ltb a (suc R)) (λ e. lt-ltb a (suc R) (omega (arith, leb-true a R e))) (λ e. le-leb a R (omega (arith, ltb-true a (suc R) e)))

-- below i + 1 are those below i, and i
pub ltb-suc : (i x : ℕ) → (x ≡ i → ⊥) → ltb x (suc i) ≡ ltb x i
ltb-suc i x ne =
    ⊎_elim (λ (l : x < i). lt-ltb x (suc i) (omega arith) ∙ sym (lt-ltb x i l)) (λ (g : i ≤ x). le-ltb x (suc i) (omega arith) ∙ sym (le-ltb x i g))
    (lt-or-le x i)

-- ---- a test as a number

pub max_is_or : (a b : Bool) → max (one_if a) (one_if b) ≡ one_if (a || b)
max_is_or true true = refl
max_is_or true false = refl
max_is_or false true = refl
max_is_or false false = refl

pub one_if-le : (b : Bool) → one_if b ≤ 1
one_if-le true = omega arith
one_if-le false = omega arith

pub one_if_positive : (b : Bool) → ltb 0 (one_if b) ≡ b
one_if_positive true = lt-ltb 0 1 (omega arith)
one_if_positive false = le-ltb 0 0 (omega arith)

-- below k + 1: below k, or k
pub one_if-suc : (a k : ℕ) → one_if (ltb a (suc k)) ≡ one_if (ltb a k) + one_if (eqb a k)
one_if-suc a k =
    ⊎_elim (λ (l : a < k). rw (lt-ltb a k l, lt-ltb a (suc k) (omega arith), ne_eqb a k (omega arith)))
    (λ (g : k ≤ a). ⊎_elim (λ (e : k ≡ a). rw (le-ltb a k g, lt-ltb a (suc k) (omega arith), eq-eqb a k (sym e)))
    (λ (l : k < a). rw (le-ltb a k g, le-ltb a (suc k) l, ne_eqb a k (omega arith)))
    (eq-or-lt_of_le g))
    (lt-or-le a k)
