-- `ListedShape::try_from` meets its contract. Assumes nothing.
use mathlib.Core.Path.{sym, ◌∙◌}
use Rattle.scope.specs.Refusals.{unless}
use Rattle.shapes.proofs.shape.ListedShapeTryFromShape.try_from.Goals as goal

pub returns-then-listed : goal.returns-then-listed
unfolding unless
returns-then-listed c = rw (sym c.listed.ensures ∙ c.if-listed.true)

pub returns-else-listed : goal.returns-else-listed
unfolding unless
returns-else-listed c = rw (sym c.listed.ensures ∙ c.if-listed.false)
