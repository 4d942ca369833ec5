-- `Bucket::ids_at` meets its contract. Assumes nothing.
use Rattle.walk.proofs.Parts.{ids_are}
use Rattle.walk.proofs.table.Bucket.ids_at.Goals as goal

pub returns : goal.returns
returns c =
    let t = c.args.self.now.table.now in
    let (le, inside) = c.requires in
    rw t.own_ids (ids_are t.ask.now.index t.asked.lent t.z t.one _ _ le inside)
