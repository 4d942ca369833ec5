-- `codes::clear` meets its contract. The loop's invariant: the places passed are zeros, written over the others. Assumes nothing.
use mathlib.Core.Path.{◌≡◌}
use Rattle.theory.specs.Lists.{over, tab}
use Rattle.codes.proofs.clear.Given as goal

abbrev pub invariant-loop-x : goal.invariant-loop-x
invariant-loop-x g l = l.x-items ≡ over (tab (λ _. g.T.Zero.ZERO) l.x-index) l.initial.x-items
