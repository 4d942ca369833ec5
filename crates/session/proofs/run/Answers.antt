-- What is printed lies within the list, and the loop ends: a turn that is not over has one record more.
use Rattle.std.proofs.Common.{arith}
use Rattle.transcript.proofs.Whole.{less_left, text_fits}
use Rattle.session.proofs.run.Goals as goal

pub shared_ref_as_front-write_all : goal.shared_ref_as_front-write_all
shared_ref_as_front-write_all g c =
    let fits = text_fits _ _ _ _ c.turn-turned.ensures in
    omega (arith, fits)

pub loop-got-smaller : goal.loop-got-smaller
loop-got-smaller g c =
    let less = less_left _ _ _ _ c.turn-turned.ensures c.in-Some.is in
    omega (arith, less)
