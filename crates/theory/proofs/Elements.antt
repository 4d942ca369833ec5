-- Laws of `any`, `has` and `All`: what holds of the elements of a list. Assumes nothing.
use mathlib.Core.Path.{◌≡◌, refl, sym, ap₂, subst}
use mathlib.Core.Logic.{⊎_elim}
use mathlib.Core.Bool.{Bool, true, false, ◌||◌}
use mathlib.Core.List.{List, [], ◌∷◌, ◌++◌, map}
use Prim.Native.Nat.{ℕ}
use lib.Dec.{eqb}
use borrow.Author.Tests.{eqb-true}
use Rattle.theory.specs.Lists.{any, has}
use Rattle.theory.proofs.Tests.{either, both_ways, or_left, or_right}
use Rattle.theory.proofs.Order.{All}

module _ {A : Type 0} where
  pub any_here : (t : A → Bool) (a : A) (l : List A) → t a ≡ true → any t (a ∷ l) ≡ true
  unfolding any
  any_here t a l h = or_left (t a) (any t l) h

  pub any-later : (t : A → Bool) (a : A) (l : List A) → any t l ≡ true → any t (a ∷ l) ≡ true
  unfolding any
  any-later t a l h = or_right (t a) (any t l) h

  -- a test that passes where the first does
  pub any_more : (t u : A → Bool) (l : List A) → ((x : A) → t x ≡ true → u x ≡ true) → any t l ≡ true → any u l ≡ true
  unfolding any
  any_more t u [] h e = e
  any_more t u (x ∷ l) h e =
      ⊎_elim (λ (y : t x ≡ true). or_left (u x) (any u l) (h x y))
      (λ (y : t x ≡ false). or_right (u x) (any u l) (any_more t u l h (rw y at e))) (either (t x))

  -- what is known of every element
  pub all-any-false : (t : A → Bool) (l : List A) → All (λ x. t x ≡ false) l → any t l ≡ false
  unfolding any
  all-any-false t [] h = refl
  all-any-false t (x ∷ l) h = rw (h.0, all-any-false t l h.1)

  pub all-any-same : (t u : A → Bool) (l : List A) → All (λ x. t x ≡ u x) l → any t l ≡ any u l
  unfolding any
  all-any-same t u [] h = refl
  all-any-same t u (x ∷ l) h = ap₂ (λ (a b : Bool). a || b) h.0 (all-any-same t u l h.1)

  pub all_front : (P : A → Type 0) (l k : List A) → All P (l ++ k) → All P l
  all_front P [] k h = tt
  all_front P (x ∷ l) k h = (h.0, all_front P l k h.1)

pub all_map : {A B : Type 0} (P : B → Type 0) (f : A → B) (l : List A) → All (λ x. P (f x)) l → All P (map f l)
all_map P f [] h = tt
all_map P f (x ∷ l) h = (h.0, all_map P f l h.1)

pub map_same : {A B : Type 0} (f g : A → B) (l : List A) → All (λ x. f x ≡ g x) l → map f l ≡ map g l
map_same f g [] h = refl
map_same f g (x ∷ l) h = ap₂ (λ b k. b ∷ k) h.0 (map_same f g l h.1)

pub all-has : (P : ℕ → Type 0) (j : ℕ) (l : List ℕ) → All P l → has j l ≡ true → P j
unfolding any
all-has P j [] h e = both_ways (sym e)
all-has P j (x ∷ l) h e =
    ⊎_elim (λ (y : eqb j x ≡ true). subst P (sym (eqb-true j x y)) h.0) (λ (y : eqb j x ≡ false). all-has P j l h.1 (rw y at e)) (either (eqb j x))
