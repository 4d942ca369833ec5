-- `Bucket::places` meets its contract. Assumes nothing.
use Prim.Native.Nat.{◌+◌, ◌<◌}
use native.Mathlib.Omega.{arith}
use lib.ListN.{length}
use Rattle.scope.proofs.Shapes.{facts, few_buckets}
use Rattle.walk.proofs.Parts.{length-own_starts, start_is}
use Rattle.walk.proofs.table.Bucket.places.Goals as goal
use Rattle.walk.proofs.table.Bucket.places.Goals.{Start}

-- place v + 1 is one of the table's starts, which are few
module _ (c : Start) where
  few : c.args.self.now.v < 65536
  few =
      let t = c.args.self.now.table.now in
      let one = c.args.self.now.one in
      omega (arith, few_buckets _ (facts _ t.asked.lent.known) t.z)

  room : c.args.self.now.v + 1 < length c.args.self.now.table.now.starts.now
  room =
      let t = c.args.self.now.table.now in
      let one = c.args.self.now.one in
      rw t.own_starts (omega (arith, length-own_starts t.ask.now.index t.asked.lent t.z t.one))

pub offset_bounds-starts-self : goal.offset_bounds-starts-self
offset_bounds-starts-self c = omega (arith, few search)

pub bounds-starts-self : goal.bounds-starts-self
bounds-starts-self c = omega (arith, room search)

pub overflow_add-result : goal.overflow_add-result
overflow_add-result c = omega (arith, few search)

pub offset_bounds-starts-self-2 : goal.offset_bounds-starts-self-2
offset_bounds-starts-self-2 c = omega (arith, few search)

pub bounds-starts-self-2 : goal.bounds-starts-self-2
bounds-starts-self-2 c = omega (arith, room search)

pub returns : goal.returns
returns c =
    let b = c.args.self.now in
    let t = b.table.now in
    let one = b.one in
    rw t.own_starts (start_is t.ask.now.index t.asked.lent t.z t.one b.v (omega arith), start_is t.ask.now.index t.asked.lent t.z t.one (b.v + 1) (omega arith))
