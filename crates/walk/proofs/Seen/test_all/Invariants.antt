-- `walk::Seen::test_all` meets its contract: the loop tests the ids that it passes. Assumes nothing.
use lib.ListN.{take}
use Rattle.theory.specs.Lists.{has}
use Rattle.walk.specs.Steps.{Sees}
use Rattle.walk.proofs.Seen.test_all.Given as goal

abbrev pub invariant-loop-id : goal.invariant-loop-id
invariant-loop-id l = Sees l.ask l.aim (λ i. has i (take l.id-index l.ids)) l.seen l.initial.marks l.marks l.tally
