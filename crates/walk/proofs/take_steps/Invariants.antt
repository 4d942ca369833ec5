-- `walk::take_steps` meets its contract. Assumes nothing.
use mathlib.Core.Path.{◌≡◌}
use lib.ListN.{length}
use Rattle.walk.specs.Steps.{enough_after}
use Rattle.walk.proofs.Stepping
use Rattle.walk.proofs.take_steps.Given as goal

abbrev pub invariant-loop-at : goal.invariant-loop-at
invariant-loop-at l =
    Stepping.Far l.ask l.aim (enough_after l.ask l.aim) l.top l.at l.w l.marks l.tally
    × (length l.marks ≡ length l.initial.marks) × (length l.tally ≡ length l.initial.tally)
