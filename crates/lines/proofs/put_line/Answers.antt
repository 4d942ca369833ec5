use native.Mathlib.Omega.{arith}
use Rattle.lines.proofs.Writing.{begun_all, begun_more, front_fits, last_fits, next_fits}
use Rattle.lines.proofs.put_line.Goals as goal

pub put_field-place-requires : goal.put_field-place-requires
put_field-place-requires c = omega (arith, last_fits _ _ _ c.in-Some.ensures.cases.0, next_fits, c.loop-field-test.true, c.loop-field.invariant.short)

pub put_byte-place-requires : goal.put_byte-place-requires
put_byte-place-requires c =
    omega (arith, last_fits _ _ _ c.in-Some.ensures.cases.0, next_fits, c.loop-field-test.true, c.loop-field.invariant.short, c.put_field-place.ensures.short)

pub put_field-place-requires-2 : goal.put_field-place-requires-2
put_field-place-requires-2 c = omega (arith, front_fits _ _ _ c.in-Some.ensures.cases.0 c.loop-field.field-index)

pub put_byte-requires : goal.put_byte-requires
put_byte-requires c = omega (arith, front_fits _ _ _ c.in-Some.ensures.cases.0 c.loop-field.field-index, c.put_field-place-2.ensures.short)

pub loop-field-preserved : goal.loop-field-preserved
loop-field-preserved c =
    begun_more c.in-Some.front.now c.loop-field.field-index _ c.loop-field-test.true c.loop-field.invariant c.put_field-place.ensures c.put_byte-place.ensures

pub returns : goal.returns
returns c =
    begun_all _ _ _ c.in-Some.ensures.cases.0 c.loop-field-test.false c.loop-field.invariant c.put_field-place-2.ensures c.put_byte.ensures
