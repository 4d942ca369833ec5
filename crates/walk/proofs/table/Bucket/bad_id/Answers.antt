-- `Bucket::bad_id` meets its contract: the table has as many ids as the catalogue has entries. Assumes nothing.
use mathlib.Core.Path.{◌≡◌, ap, ◌∙◌}
use native.Mathlib.Omega.{arith}
use lib.ListN.{length}
use borrow.Author.Tests.{le-leb}
use Rattle.scope.specs.Tables.{n}
use Rattle.walk.proofs.Parts.{length-own_ids}
use Rattle.walk.proofs.table.Bucket.bad_id.Goals as goal
use Rattle.walk.proofs.table.Bucket.bad_id.Goals.{Start}

all : (c : Start) → length c.args.self.now.table.now.ids.now ≡ n c.args.self.now.table.now.ask.now.index
all c =
    let t = c.args.self.now.table.now in
    ap length t.own_ids ∙ length-own_ids t.ask.now.index t.asked.lent t.z t.one

pub returns-then-table-i : goal.returns-then-table-i
returns-then-table-i c = rw (le-leb (n c.args.self.now.table.now.ask.now.index) c.args.i (omega (arith, all search, c.if-table-i.true)))
