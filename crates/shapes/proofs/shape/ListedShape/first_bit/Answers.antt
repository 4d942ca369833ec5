-- `ListedShape::first_bit` meets its contract, by the closed form. Assumes nothing.
use Rattle.scope.proofs.Shapes.{first_closed}
use Rattle.shapes.proofs.shape.ListedShape.first_bit.Goals as goal

pub returns : goal.returns
returns c = rw (first_closed, ← c.least.ensures.value, ← c.longer.ensures, c.min.ensures)
