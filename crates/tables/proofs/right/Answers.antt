-- `tables::right` meets its contract: the parts that it lends are table z's. Assumes nothing.
use mathlib.Core.Path.{ap, ◌∙◌}
use Rattle.scope.specs.Tables.{Index}
use Rattle.shapes.proofs.Accepting.{fits_lent}
use Rattle.tables.proofs.Parts
use native.Mathlib.Omega.{arith}
use Rattle.tables.proofs.right.Goals as goal
use Rattle.tables.proofs.right.Goals.{After-of-part}

pub of-part-requires : goal.of-part-requires
of-part-requires c =
    let e = rw (← c.index.view_is) at c.entries.ensures.value in
    record { shape = rw (ap (λ (x : Index). x.shape) c.index.view_is) c.requires; codes = (c.entries.ensures.few, rw e c.index.invariant.codes) }

part : (c : After-of-part) → Parts.Is c.args.index.now c.args.z c.of-part.result
part c =
    rw (ap (λ (x : Index). x.shape) c.index.view_is, ap (λ (x : Index). x.codes) c.index.view_is, c.entries.ensures.value) at c.of-part.ensures

turn : (c : After-of-part) → Parts.Turn c.args.index.now c.args.z c.of-part.result
turn c =
    Parts.turn _ _ _ (fits_lent (rw c.index.view_is at c.index.invariant)) c.requires (part c)

pub offset_bounds-index-inside-part : goal.offset_bounds-index-inside-part
offset_bounds-index-inside-part c =
    let p : After-of-part = search in
    omega (arith, turn p)

pub slice_bounds-check-count : goal.slice_bounds-check-count
slice_bounds-check-count c =
    let p : After-of-part = search in
    omega (arith, turn p)

pub slice_bounds-check-start : goal.slice_bounds-check-start
slice_bounds-check-start c =
    let p : After-of-part = search in
    omega (arith, turn p)

pub slice_bounds-check-end : goal.slice_bounds-check-end
slice_bounds-check-end c =
    let p : After-of-part = search in
    rw (ap (λ (x : Index). x.starts) c.index.view_is) (omega (arith, turn p))

pub check-requires : goal.check-requires
check-requires c =
    let p : After-of-part = search in
    rw (ap (λ (x : Index). x.starts) c.index.view_is, ap (λ (x : Index). x.ids) c.index.view_is) (record { starts_len = Parts.parts_long _ _ _ _ _ (part p) (turn p) (omega arith) (omega arith) })

pub returns : goal.returns
returns c =
    let p : After-of-part = search in
    rw (ap (λ (x : Index). x.starts) c.index.view_is, ap (λ (x : Index). x.ids) c.index.view_is) at c.check.ensures ∙ Parts.right_is _ _ _ (part p) (turn p)
