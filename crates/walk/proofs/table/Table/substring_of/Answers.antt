-- `Table::substring_of` meets its contract. Assumes nothing.
use native.Mathlib.Omega.{arith}
use Rattle.scope.proofs.Shapes.{facts, in_code}
use Rattle.walk.proofs.table.Table.substring_of.Goals as goal

pub substring-requires : goal.substring-requires
substring-requires c =
    let t = c.args.self.now in
    let f = facts _ t.asked.lent.known in
    let some = f.some_bits t.z in
    let few = f.few_bits t.z in
    let first = t.first in
    let long = t.long in
    (omega arith, omega arith, omega (arith, in_code _ f t.z t.one))
