-- `Table::bucket_of` meets its contract. Assumes nothing.
use native.Mathlib.Omega.{arith}
use Rattle.theory.proofs.Parts.{in_parts}
use Rattle.scope.specs.Tables.{substring_of}
use Rattle.scope.proofs.Shapes.{facts, in_code}
use Rattle.walk.proofs.table.Table.bucket_of.Goals as goal

pub entry_substring-requires : goal.entry_substring-requires
entry_substring-requires c =
    let t = c.args.self.now in
    let x = t.ask.now.index in
    let f = facts _ t.asked.lent.known in
    let some = f.some_bits t.z in
    let few = f.few_bits t.z in
    let codes = t.asked.lent.codes in
    let first = t.first in
    let long = t.long in
    rw (t.words, t.coded) (omega arith, omega arith, omega (arith, in_code _ f t.z t.one), omega (arith, in_parts c.args.i _ x.shape.w c.requires))

pub returns : goal.returns
unfolding substring_of
returns c =
    let t = c.args.self.now in
    rw (c.entry_substring.ensures, t.first, t.long, t.words, t.coded)
