-- `Accepted::codes` meets its contract. Assumes nothing.
use native.Mathlib.Omega.{arith}
use Rattle.scope.proofs.Shapes.{facts}
use Rattle.shapes.proofs.accepted.Accepted.codes.Goals as goal

pub invariant_of-result : goal.invariant_of-result
invariant_of-result c =
    let few = (facts _ c.self.invariant.known).few_words in
    record { few_words = omega (arith, c.words.ensures) }
