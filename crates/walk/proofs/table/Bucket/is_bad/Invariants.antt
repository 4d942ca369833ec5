-- `Bucket::is_bad` meets its contract: the loop passes the places whose ids are not bad. Assumes nothing.
use Prim.Native.Nat.{◌+◌}
use Rattle.scope.specs.Tables.{start}
use Rattle.walk.proofs.Buckets
use Rattle.walk.proofs.table.Bucket.is_bad.Given as goal

abbrev pub invariant-loop-id : goal.invariant-loop-id
invariant-loop-id l =
    let t = l.self.table.now in
    Buckets.Passed t.ask.now.index t.z l.self.v (start t.ask.now.index t.z l.self.v + l.id-index) l.least
