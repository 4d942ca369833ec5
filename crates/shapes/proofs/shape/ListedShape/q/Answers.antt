-- `ListedShape::q` meets its contract. Assumes nothing.
use native.Mathlib.Omega.{arith}
use Rattle.scope.proofs.Shapes.{facts}
use Rattle.shapes.proofs.shape.ListedShape.q.Goals as goal

pub overflow_mul-result : goal.overflow_mul-result
overflow_mul-result c = omega (arith, (facts _ c.self.invariant).few_words)

pub returns-clause-few : goal.returns-clause-few
returns-clause-few c = omega (arith, (facts _ c.self.invariant).few_words)
