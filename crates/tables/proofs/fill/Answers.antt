use Rattle.scope.proofs.Ends.{build_fits}
use Rattle.tables.proofs.Parts
use native.Mathlib.Omega.{arith}
use Rattle.tables.proofs.fill.Goals as goal

pub loop-z-init : goal.loop-z-init
loop-z-init c = Parts.filled_none _

pub of-part-requires : goal.of-part-requires
of-part-requires c =
    let f = build_fits _ c.requires in
    record { shape = omega (arith, c.m-z-end.ensures); codes = (f.few, f.whole) }

pub offset_bounds-starts-part : goal.offset_bounds-starts-part
offset_bounds-starts-part c = omega (arith, Parts.turn _ _ _ (build_fits _ c.requires) (omega (arith, c.m-z-end.ensures)) c.of-part.ensures)

pub slice_bounds-build-count : goal.slice_bounds-build-count
slice_bounds-build-count c = omega (arith, Parts.turn _ _ _ (build_fits _ c.requires) (omega (arith, c.m-z-end.ensures)) c.of-part.ensures)

pub slice_bounds-build-start : goal.slice_bounds-build-start
slice_bounds-build-start c = omega (arith, Parts.turn _ _ _ (build_fits _ c.requires) (omega (arith, c.m-z-end.ensures)) c.of-part.ensures)

pub slice_bounds-build-end : goal.slice_bounds-build-end
slice_bounds-build-end c = omega (arith, Parts.turn _ _ _ (build_fits _ c.requires) (omega (arith, c.m-z-end.ensures)) c.of-part.ensures)

pub slice_bounds-build-end-in-loop-z : goal.slice_bounds-build-end-in-loop-z
slice_bounds-build-end-in-loop-z c = omega (arith, Parts.turn _ _ _ (build_fits _ c.requires) (omega (arith, c.m-z-end.ensures)) c.of-part.ensures)

pub build-requires : goal.build-requires
build-requires c =
    record { starts_len = Parts.parts_long _ _ _ _ _ c.of-part.ensures (Parts.turn _ _ _ (build_fits _ c.requires) (omega (arith, c.m-z-end.ensures)) c.of-part.ensures) (omega arith) (omega arith) }

pub loop-z-preserved : goal.loop-z-preserved
loop-z-preserved c =
    Parts.filled_next _ _ _ _ _ _ _ c.loop-z.invariant c.of-part.ensures (Parts.turn _ _ _ (build_fits _ c.requires) (omega (arith, c.m-z-end.ensures)) c.of-part.ensures) (omega (arith, c.m-z-end.ensures)) c.build.ensures.starts_after c.build.ensures.ids_after

pub returns : goal.returns
returns c =
    let filled = Parts.filled_all _ _ _ _ c.loop-z.invariant (omega (arith, c.m-z-end.ensures, c.loop-z.invariant.upto)) in
    record { starts_after = filled.0; ids_after = filled.1 }
