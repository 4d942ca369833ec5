-- `masks::lowest` meets its contract. The loop's invariant: what is left is the mask from some place on, and as many of its ones as turns were taken are below that place.
-- Assumes nothing.
use Rattle.masks.proofs.Cleared.{Cleared}
use Rattle.masks.proofs.lowest.Given as goal

abbrev pub invariant-loop : goal.invariant-loop
invariant-loop l = Cleared l.under l.counter l.rest
