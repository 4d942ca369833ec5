-- `Table::of` meets its contract: its parts end within the lists. Assumes nothing.
use Prim.Native.Nat.{◌+◌, ◌≤◌}
use native.Mathlib.Omega.{arith}
use lib.ListN.{length}
use Rattle.walk.proofs.Parts.{starts_inside}
use Rattle.walk.proofs.table.Table.of.Goals as goal
use Rattle.walk.proofs.table.Table.of.Goals.{After-buckets}

inside : (c : After-buckets) → c.starts_before-a.result + c.buckets.result + 1 ≤ length c.index.inside.starts.now
inside c =
    let z = rw (← c.ask.view_is, ← c.index.view_is) at c.requires in
    rw (c.starts_before-a.ensures, c.buckets.ensures) (starts_inside _ c.index.invariant c.args.z z)

pub overflow_add-result : goal.overflow_add-result
overflow_add-result c =
    let room = c.index.told2 in
    omega (arith, inside search)

pub overflow_add-result-2 : goal.overflow_add-result-2
overflow_add-result-2 c = omega (arith, inside search)

pub offset_bounds-starts-a : goal.offset_bounds-starts-a
offset_bounds-starts-a c = omega (arith, inside search)

pub slice_bounds-result-end : goal.slice_bounds-result-end
slice_bounds-result-end c = omega (arith, inside search)
