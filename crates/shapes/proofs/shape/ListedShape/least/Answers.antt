-- `ListedShape::least` meets its contract. Assumes nothing.
use Rattle.scope.proofs.Shapes.{facts}
use Rattle.shapes.proofs.shape.ListedShape.least.Goals as goal

pub nonzero_div-result : goal.nonzero_div-result
nonzero_div-result c = (facts _ c.self.invariant).some_tables
