use mathlib.Core.Path.{◌≡◌, sym, ap, ◌∙◌}
use native.Mathlib.Omega.{arith}
use lib.ListN.{length}
use Rattle.std.proofs.Common.{add_assoc, add-zero}
use Rattle.scope.specs.Tables.{n}
use Rattle.walk.proofs.Buckets
use Rattle.walk.proofs.Parts.{length-own_ids}
use Rattle.walk.proofs.table.Bucket.is_bad.Goals as goal
use Rattle.walk.proofs.table.Bucket.is_bad.Goals.{Start}

all : (c : Start) → length c.args.self.now.table.now.ids.now ≡ n c.args.self.now.table.now.ask.now.index
all c =
    let t = c.args.self.now.table.now in
    ap length t.own_ids ∙ length-own_ids t.ask.now.index t.asked.lent t.z t.one

pub returns-then-places : goal.returns-then-places
returns-then-places c =
    let (s, e) = c.places-places.ensures in
    sym (Buckets.bad_order _ _ _ (omega arith))

pub returns-then-self-places : goal.returns-then-self-places
returns-then-self-places c =
    let (s, e) = c.places-places.ensures in
    sym (Buckets.bad-over _ _ _ (omega arith) (omega (arith, all search)))

pub loop-id-init : goal.loop-id-init
loop-id-init c =
    let (s, e) = c.places-places.ensures in
    rw add-zero (Buckets.passed_none _ _ _ (omega arith))

pub returns-then-bad_id : goal.returns-then-bad_id
returns-then-bad_id c =
    let b = c.args.self.now in
    let (s, e) = c.places-places.ensures in
    let ids = rw (s, e) at c.ids_at-id-items.ensures in
    let here = Buckets.id_is _ b.table.now.z b.v _ ids _ c.loop-id-test.true in
    let inside = Buckets.place _ b.table.now.z b.v _ ids _ c.loop-id-test.true in
    let test = Buckets.test_is _ _ _ _ _ c.loop-id.invariant _ (rw here at c.bad_id.ensures) in
    sym (Buckets.bad_here _ _ _ _ _ c.loop-id.invariant inside (test ∙ c.if-bad_id.true))

pub loop-id-preserved : goal.loop-id-preserved
loop-id-preserved c =
    let b = c.args.self.now in
    let (s, e) = c.places-places.ensures in
    let ids = rw (s, e) at c.ids_at-id-items.ensures in
    let here = Buckets.id_is _ b.table.now.z b.v _ ids _ c.loop-id-test.true in
    let inside = Buckets.place _ b.table.now.z b.v _ ids _ c.loop-id-test.true in
    let test = Buckets.test_is _ _ _ _ _ c.loop-id.invariant _ (rw here at c.bad_id.ensures) in
    rw (here, ← add_assoc) (Buckets.passed_more _ _ _ _ _ c.loop-id.invariant inside (test ∙ c.if-bad_id.false))

pub returns : goal.returns
returns c =
    let b = c.args.self.now in
    let (s, e) = c.places-places.ensures in
    let ids = rw (s, e) at c.ids_at-id-items.ensures in
    let long = Buckets.long _ b.table.now.z b.v _ ids in
    let l = c.loop-id-test.false in
    sym (Buckets.bad-none _ _ _ _ _ c.loop-id.invariant (omega arith) (omega (arith, all search)))
