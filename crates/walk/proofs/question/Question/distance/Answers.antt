-- `Question::distance` meets its contract. Assumes nothing.
use native.Mathlib.Omega.{arith}
use Rattle.theory.proofs.Parts.{in_parts}
use Rattle.walk.proofs.question.Question.distance.Goals as goal

pub distance-requires : goal.distance-requires
distance-requires c =
    let r = rw (← c.self.view_is) at c.requires in
    let x = c.self.inside.index in
    let (words, w) = c.codes.ensures in
    let codes = c.self.invariant.lent.codes in
    let query = c.self.invariant.query in
    let mask = c.self.invariant.mask in
    rw (words, w) (record { inside = omega (arith, in_parts c.args.i _ x.shape.w r); long = (omega arith, omega arith) })
