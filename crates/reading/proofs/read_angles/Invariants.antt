-- `reading::read_angles` meets its contract. The invariant: the first i angles are written. Assumes nothing.
use mathlib.Core.Path.{◌≡◌}
use Rattle.reading.specs.Offsets.{angles_at}
use Rattle.theory.specs.Lists.{over}
use Rattle.reading.proofs.read_angles.Given as goal

abbrev pub invariant-loop-i : goal.invariant-loop-i
invariant-loop-i l = l.list ≡ over (angles_at l.s l.at l.i) l.initial.list
