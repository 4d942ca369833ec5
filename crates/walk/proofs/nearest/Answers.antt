-- `walk::nearest` meets its contract. Assumes nothing.
use native.Mathlib.Omega.{arith}
use Rattle.scope.specs.Shape.{q}
use Rattle.scope.specs.Walk.{distance_of, star_of}
use Rattle.walk.proofs.Asked.{of_index}
use Rattle.walk.proofs.Stepping
use Rattle.walk.proofs.nearest.Goals as goal

pub returns-then-k-eq0 : goal.returns-then-k-eq0
returns-then-k-eq0 c =
    let ask = c.args.ask.now in
    let top = of_index (λ x. q x.shape) c.index.view_is c.ask.view_is c.q-top.ensures.value in
    let none = Stepping.listing_none (star_of ask) (distance_of ask) _ _ _ _ c.requires.fresh _ _ _ c.q-top.ensures.few c.start.ensures in
    rw (c.if-k-eq0.true, Stepping.nearest-none, ← top) (rw c.if-k-eq0.true at (Stepping.walked_none ask _ _ _ _ c.start.ensures c.requires.fresh none))

pub returns : goal.returns
returns c =
    let ask = c.args.ask.now in
    let top = of_index (λ x. q x.shape) c.index.view_is c.ask.view_is c.q-top.ensures.value in
    let ne = c.if-k-eq0.false in
    Stepping.walked_as _ _ _ _ (Stepping.nearest_steps_lem ask c.args.k (q ask.index.shape) (omega arith) c.requires.k_in_bounds) _ _ _ (rw top at c.take_steps.ensures)
