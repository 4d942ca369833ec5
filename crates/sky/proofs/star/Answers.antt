-- `sky::star` meets its contract: the place of across goes first, then that of up. Assumes nothing.
use Rattle.std.specs.Prelude.{Ok, Err}
use Rattle.scope.specs.declared.Refusal.{Refusal}
use mathlib.Core.Path.{◌≡◌, sym, ap, ◌∙◌}
use Prim.Native.Nat.{ℕ, ◌+◌, ◌*◌}
use native.Mathlib.Omega.{arith}
use Rattle.scope.specs.declared.Angle.{Angle}
use Rattle.scope.specs.Sky.{degrees, column}
use Rattle.scope.proofs.Rows.{passed_on}
use Rattle.sky.specs.Place.{place_of, star_of}
use Rattle.sky.proofs.Places.{place_is, star_is}
use Rattle.sky.proofs.star.Goals as goal

-- an angle that is refused gives the answer
across-refused : (k : ℕ) (a b : Angle) (why : Refusal) → place_of k a ≡ Err why → Err why ≡ star_of k a b
across-refused k a b why e = rw (star_is k a b, e) (λ i. Err why)

up-refused : (k : ℕ) (a b : Angle) (x : ℕ) (why : Refusal) → place_of k a ≡ Ok x → place_of k b ≡ Err why → Err why ≡ star_of k a b
up-refused k a b x why d e = rw (star_is k a b, d, e) (λ i. Err why)

both_at : (k : ℕ) (a b : Angle) (x y : ℕ) → place_of k a ≡ Ok x → place_of k b ≡ Ok y → Ok (8 * y + x) ≡ star_of k a b
both_at k a b x y d e =
    let cell : 8 * y + x ≡ 8 * column (degrees b) + column (degrees a) = rw ((place_is k a x d).0, (place_is k b y e).0) in
    rw (star_is k a b, d, e) (ap Ok cell)

pub returns-in_err-column : goal.returns-in_err-column
returns-in_err-column c = passed_on c.from_residual.ensures.1 ∙ across-refused _ _ _ _ (sym c.place_of.ensures ∙ c.in_err-column.was)

pub returns-in_err-row : goal.returns-in_err-row
returns-in_err-row c = passed_on c.from_residual-in_err-row.ensures.1 ∙ up-refused _ _ _ _ _ (sym c.place_of.ensures ∙ c.in_ok-column.was) (sym c.place_of-2.ensures ∙ c.in_err-row.was)

-- a column and a row are below 8
pub overflow_mul-result : goal.overflow_mul-result
overflow_mul-result c = omega (arith, place_is _ _ _ (sym c.place_of.ensures ∙ c.in_ok-column.was), place_is _ _ _ (sym c.place_of-2.ensures ∙ c.in_ok-row.was))

pub overflow_add-result : goal.overflow_add-result
overflow_add-result c = omega (arith, place_is _ _ _ (sym c.place_of.ensures ∙ c.in_ok-column.was), place_is _ _ _ (sym c.place_of-2.ensures ∙ c.in_ok-row.was))

pub returns : goal.returns
returns c = both_at _ _ _ _ _ (sym c.place_of.ensures ∙ c.in_ok-column.was) (sym c.place_of-2.ensures ∙ c.in_ok-row.was)
