-- `ListedShape::longer` meets its contract. Assumes nothing.
use Rattle.scope.proofs.Shapes.{facts}
use Rattle.shapes.proofs.shape.ListedShape.longer.Goals as goal

pub nonzero_rem-result : goal.nonzero_rem-result
nonzero_rem-result c = (facts _ c.self.invariant).some_tables
