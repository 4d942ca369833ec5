-- Where an angle and a star lie, or the first of refusals 9 and 10 that fits them. Assumes nothing.
use Rattle.std.specs.Prelude.{◌++◌, ℕ, ◌+◌, ◌*◌, Result, Ok, Err}
use Rattle.scope.specs.declared.Refusal.{Refusal}
use Rattle.scope.specs.declared.Angle.{Angle}
use Rattle.scope.specs.Sky.{degrees, column}
use Rattle.scope.specs.Refusals.{bad_angle, unless}

-- an angle of star k
unfoldable pub place_of : ℕ → Angle → Result ℕ Refusal
place_of k a = unless (bad_angle k a) Err (Ok (column (degrees a)))

-- star k: across before up; its cell is 8·row + column
unfoldable pub star_of : ℕ → Angle → Angle → Result ℕ Refusal
star_of k across up = unless (bad_angle k across ++ bad_angle k up) Err (Ok (8 * column (degrees up) + column (degrees across)))
