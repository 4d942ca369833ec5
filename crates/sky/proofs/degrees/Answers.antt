-- `sky::degrees` meets its contract: the source's literal is the f64 nearest 57.29577951308232. Assumes nothing.
use mathlib.Core.Path.{◌≡◌}
use lib.Ieee.{Float, binary64, mul, of_bits, round}
use Rattle.scope.specs.declared.Angle.{Angle}
use Rattle.scope.specs.declared.Angle.TheVariants.{Degrees, Radians}
use Rattle.scope.specs.Sky.{degrees, per_radian}
use Rattle.sky.proofs.degrees.Goals as goal

in-degrees : {a : Angle} {x : Float} → a ≡ Degrees x → x ≡ degrees a
unfolding degrees
in-degrees e = rw e

in-radians : {a : Angle} {x : Float} → a ≡ Radians x → mul binary64 x per_radian ≡ degrees a
unfolding degrees
in-radians e = rw e

pub returns-in-Degrees : goal.returns-in-Degrees
returns-in-Degrees c = in-degrees c.in-Degrees.is

pub returns-in-Radians : goal.returns-in-Radians
unfolding of_bits per_radian round
returns-in-Radians c = in-radians c.in-Radians.is
