-- `Bucket::refusal` meets its contract: both numbers fit. Assumes nothing.
use native.Mathlib.Omega.{arith}
use Rattle.scope.proofs.Shapes.{facts, few_buckets}
use Rattle.walk.proofs.table.Bucket.refusal.Goals as goal

pub overflow_cast-result : goal.overflow_cast-result
overflow_cast-result c =
    let t = c.args.self.now.table.now in
    let few = (facts _ t.asked.lent.known).few_tables in
    let one = t.one in
    omega arith

pub overflow_cast-result-2 : goal.overflow_cast-result-2
overflow_cast-result-2 c =
    let b = c.args.self.now in
    let t = b.table.now in
    let one = b.one in
    omega (arith, few_buckets _ (facts _ t.asked.lent.known) t.z)
