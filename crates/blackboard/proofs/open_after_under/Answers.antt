-- `blackboard::open_after_under` meets its contract. Assumes nothing.
use native.Mathlib.Omega.{arith}
use Rattle.std.proofs.Common.{rules}
use Rattle.scope.specs.Shape.{m}
use Rattle.scope.specs.Walk.{open_in_under, open_after_under}
use Rattle.scope.proofs.Shapes.{facts}
use Rattle.blackboard.proofs.Sums.{summed, sum_fits}
use Rattle.blackboard.proofs.Steps.{small_under}
use Rattle.blackboard.proofs.open_after_under.Goals as goal

pub sum-requires-clause-fits : goal.sum-requires-clause-fits
sum-requires-clause-fits c =
    let sh = c.shape.inside.shape in
    sum_fits _ (open_in_under sh c.args.mask.now c.args.step) (m sh) c.map.ensures.source c.map.ensures.closure (λ x r q k. search rules) _
    (omega (arith, small_under sh c.args.step c.shape.invariant c.args.mask.now (m sh) (facts sh c.shape.invariant).few_tables))

pub returns : goal.returns
unfolding open_after_under
returns c =
    let sh = c.shape.inside.shape in
    rw (← c.shape.view_is) (summed _ (open_in_under sh c.args.mask.now c.args.step) (m sh) c.map.ensures.source c.map.ensures.closure (λ x r q k. search rules) _ c.sum.ensures.ran)
