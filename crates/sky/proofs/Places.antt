-- A place decides between a refusal and what comes next; and a place in the field is a column below 8, a cell below 64. Assumes nothing.
use Rattle.std.specs.Prelude.{Result, Ok, Err}
use mathlib.Core.Path.{◌≡◌, refl, sym, ap, ◌∙◌}
use mathlib.Core.Bool.{Bool, true, false, not, cond}
use mathlib.Core.List.{[], ◌∷◌}
use Prim.Native.Nat.{ℕ, ◌+◌, ◌*◌, ◌<◌}
use native.Mathlib.Omega.{arith}
use lib.Ieee.{Float, nan, inf, fin}
use Rattle.std.specs.Float.{float_is_finite}
use Rattle.scope.specs.declared.Angle.{Angle}
use Rattle.scope.specs.declared.Refusal.{Refusal}
use Rattle.scope.specs.Sky.{given, finite, degrees, in_field, column}
use Rattle.scope.specs.Refusals.{Rows, bad_angle, unless}
use Rattle.scope.proofs.Field.{column-lt}
use Rattle.scope.proofs.Rows.{unless-append}
use Rattle.sky.specs.Place.{place_of, star_of}

module _ {A : Type 0} where
  abbrev pub onward : Result ℕ Refusal → (Refusal → A) → A → A
  onward (Ok y) refused answer = answer
  onward (Err why) refused answer = refused why

  -- the place that rows give tells what they give in any other answer
  pub told : (rows : Rows) (x : ℕ) (refused : Refusal → A) (answer : A)
      → unless rows refused answer ≡ onward (unless rows Err (Ok x)) refused answer
  unfolding unless
  told [] x refused answer = refl
  told (row ∷ rows) x refused answer = step row.0 _ _ (told rows x refused answer)
    where
      step : (b : Bool) (rest : A) (p : Result ℕ Refusal) → rest ≡ onward p refused answer
          → cond b (refused row.1) rest ≡ onward (cond b (Err row.1) p) refused answer
      step true rest p h = refl
      step false rest p h = h

pub at_is : (rows : Rows) (x y : ℕ) → unless rows Err (Ok x) ≡ Ok y → y ≡ x
at_is rows x y h =
    let e : unless rows Err (Ok x) ≡ Ok x = told rows x Err (Ok x) ∙ rw h in
    cc

-- ---- an angle

-- std's test is the definition's
pub same_test : (x : Float) → float_is_finite x ≡ finite x
unfolding float_is_finite finite
same_test nan = refl
same_test (inf s) = refl
same_test (fin s m e) = refl

pub place_is : (k : ℕ) (a : Angle) (y : ℕ) → place_of k a ≡ Ok y → (y ≡ column (degrees a)) × (y < 8)
unfolding place_of unless
place_is k a y h =
    let is : y ≡ column (degrees a) = at_is (bad_angle k a) (column (degrees a)) y h in
    let passes : unless (bad_angle k a) (λ _. false) true ≡ true = told (bad_angle k a) (column (degrees a)) (λ _. false) true ∙ rw h in
    (is, rw is (column-lt (degrees a) (inside (finite (given a)) (in_field (degrees a)) passes)))
  where
    inside : (f i : Bool) → cond (not f) false (cond (not i) false true) ≡ true → i ≡ true
    inside f true h = refl
    inside true false h = h
    inside false false h = h

-- ---- a star

pub star_is : (k : ℕ) (a b : Angle)
    → star_of k a b ≡ onward (place_of k a) Err (onward (place_of k b) Err (Ok (8 * column (degrees b) + column (degrees a))))
unfolding star_of place_of
star_is k a b =
    let cell = Ok (8 * column (degrees b) + column (degrees a)) in
    unless-append (bad_angle k a) (bad_angle k b) Err cell ∙ told (bad_angle k a) (column (degrees a)) Err (unless (bad_angle k b) Err cell)
    ∙ ap (onward (place_of k a) Err) (told (bad_angle k b) (column (degrees b)) Err cell)

pub star-lt : (k : ℕ) (a b : Angle) (j : ℕ) → star_of k a b ≡ Ok j → j < 64
star-lt k a b j h = cell_lt (place_of k a) (place_of k b) (place_is k a) (place_is k b) (sym (star_is k a b) ∙ h)
  where
    cell_lt : {x y : ℕ} (p q : Result ℕ Refusal) → ((i : ℕ) → p ≡ Ok i → (i ≡ x) × (i < 8)) → ((i : ℕ) → q ≡ Ok i → (i ≡ y) × (i < 8))
        → onward p Err (onward q Err (Ok (8 * y + x))) ≡ Ok j → j < 64
    cell_lt {x} {y} (Ok c) (Ok r) f g h =
        let e : 8 * y + x ≡ j = cc in
        omega (arith, f c refl, g r refl)
    cell_lt (Ok c) (Err why) f g h = let z : ◌≡◌ {A = ℕ} 0 1 = cc in absurd (omega arith)
    cell_lt (Err why) q f g h = let z : ◌≡◌ {A = ℕ} 0 1 = cc in absurd (omega arith)
