-- `Table::buckets` meets its contract. Assumes nothing.
use mathlib.Core.Path.{◌≡◌, ap, ◌∙◌}
use Prim.Native.Nat.{◌+◌}
use native.Mathlib.Omega.{arith}
use lib.ListN.{length}
use Rattle.scope.specs.Shape.{size}
use Rattle.scope.proofs.Shapes.{facts, few_buckets}
use Rattle.walk.proofs.Parts.{length-own_starts}
use Rattle.walk.proofs.table.Table.buckets.Goals as goal
use Rattle.walk.proofs.table.Table.buckets.Goals.{Start}

-- its starts are one more than its buckets
starts : (c : Start) → let t = c.args.self.now in length t.starts.now ≡ size t.ask.now.index.shape t.z + 1
starts c =
    let t = c.args.self.now in
    ap length t.own_starts ∙ length-own_starts t.ask.now.index t.asked.lent t.z t.one

pub overflow_sub-result : goal.overflow_sub-result
overflow_sub-result c = omega (arith, starts search)

pub returns-clause-value : goal.returns-clause-value
returns-clause-value c = omega (arith, starts search)

pub returns-clause-few : goal.returns-clause-few
returns-clause-few c =
    let t = c.args.self.now in
    omega (arith, starts search, few_buckets _ (facts _ t.asked.lent.known) t.z)
