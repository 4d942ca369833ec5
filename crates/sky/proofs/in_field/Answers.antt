-- `sky::in_field` meets its contract: its two comparisons are those of the field. Assumes nothing.
use mathlib.Core.Path.{◌≡◌}
use mathlib.Core.Bool.{true, false}
use lib.Ieee.{Float, of_bits, neg, of_int, lt, le}
use Rattle.scope.specs.Sky.{edge, in_field}
use Rattle.sky.proofs.in_field.Goals as goal

above : (d : Float) → le (edge 0) d ≡ true → lt d (edge 8) ≡ in_field d
unfolding in_field
above d h = rw h

below : (d : Float) → le (edge 0) d ≡ false → le (edge 0) d ≡ in_field d
unfolding in_field
below d h = rw h

pub returns-then-d : goal.returns-then-d
unfolding edge of_bits neg of_int
returns-then-d c = above c.args.d c.if-d.true

pub returns-else-d : goal.returns-else-d
unfolding edge of_bits neg of_int
returns-else-d c = below c.args.d c.if-d.false
