-- `Bucket::entries` meets its contract: a bucket that is not bad lists entries. Assumes nothing.
use Prim.Native.Nat.{◌<◌}
use native.Mathlib.Omega.{arith}
use Rattle.std.proofs.lemmas.List.Elements.{All-from_get_or}
use Rattle.scope.specs.Tables.{n}
use Rattle.scope.proofs.Walking.{Good, good}
use Rattle.walk.proofs.Buckets
use Rattle.walk.proofs.table.Bucket.entries.Goals as goal
use Rattle.walk.proofs.table.Bucket.entries.Goals.{Start}

sound : (c : Start) → let b = c.args.self.now in Good b.table.now.ask.now.index b.table.now.z b.v
sound c = good _ _ _ c.requires

pub ids_at-requires : goal.ids_at-requires
ids_at-requires c =
    let (s, e) = c.places.ensures in
    let g = sound search in
    rw (s, e) (g.order, g.inside)

pub returns-clause-theirs : goal.returns-clause-theirs
returns-clause-theirs c =
    let b = c.args.self.now in
    let x = b.table.now.ask.now.index in
    let (s, e) = c.places.ensures in
    let ids = rw (s, e) at c.ids_at.ensures in
    All-from_get_or (λ i. i < n x) _ 0
    (λ k l. rw (Buckets.id_is x b.table.now.z b.v _ ids k l) ((sound search).entry _ (omega arith) (Buckets.place x b.table.now.z b.v _ ids k l)))
