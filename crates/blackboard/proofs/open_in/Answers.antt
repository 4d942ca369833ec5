-- `blackboard::open_in` meets its contract. Assumes nothing.
use Rattle.scope.proofs.Shapes.{facts}
use Rattle.blackboard.proofs.Steps.{few_radii}
use Rattle.blackboard.proofs.open_in.Goals as goal

pub radii-requires : goal.radii-requires
radii-requires c =
    let sh = c.shape.inside.shape in
    ((facts sh c.shape.invariant).some_tables, few_radii sh c.args.step c.shape.invariant (rw c.shape.view_is c.requires.0))
