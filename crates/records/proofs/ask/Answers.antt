-- `records::ask` meets its contract. Assumes nothing.
use lib.ListN.{length}
use mathlib.Core.Path.{ap}
use native.Mathlib.Omega.{arith}
use Rattle.records.proofs.Arms.{listed, most, short}
use Rattle.records.proofs.ask.Goals as goal

pub put_found-requires : goal.put_found-requires
put_found-requires c =
    let m = most c.args.session c.args.sought c.args.code c.list-found.ensures (omega arith) in
    let w = short c.args.sought in
    record { lists_hold = (omega (arith, ap length c.word_of.ensures), omega arith, omega arith); room = omega arith }

pub returns : goal.returns
returns c =
    let m = most c.args.session c.args.sought c.args.code c.list-found.ensures (omega arith) in
    listed c.args.session c.args.sought c.args.code c.list-found.ensures c.word_of.ensures c.number.ensures c.kept.ensures c.put_found.ensures
    (omega (arith, c.put_found.ensures.short))
