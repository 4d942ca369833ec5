use mathlib.Core.Path.{◌≡◌}
use native.Mathlib.Omega.{arith}
use lib.ListN.{length, length-append}
use Rattle.std.proofs.lemmas.Slice.Zip.{zip_end, zip_turn}
use Rattle.lines.proofs.Writing.{listing_more, listing_none}
use Rattle.lines.proofs.put_answers.Goals as goal

pub loop-entry-init : goal.loop-entry-init
loop-entry-init c = listing_none _ _ _ _ _ _

pub loop-entry-preserved : goal.loop-entry-preserved
loop-entry-preserved c =
    let entries : c.into_iter-entry-iterator.result.a.rest.now ≡ c.args.entries.now =
    rw (c.into_iter-entry-iterator.ensures.into_iter_gives, c.zip-entry-items.ensures.first) c.iter.ensures.rest in
    let distances : c.into_iter-entry-iterator.result.b.rest.now ≡ c.args.distances.now =
    rw c.into_iter-entry-iterator.ensures.into_iter_gives c.zip-entry-items.ensures.second.0 in
    let t = zip_turn _ _ c.loop-entry.yielded c.into_iter-entry-iterator.result _ c.next.new.self _ entries distances c.loop-entry.yielded_by _ c.in-Some.is c.next.ensures.steps in
    rw length-append (listing_more _ _ _ _ _ _ _ _ _ _ _ c.loop-entry.invariant t.0 (t.2 0) (t.3 0) c.star_of.ensures c.put_answer-place.ensures c.put_answer-place.auto.out)

pub returns : goal.returns
returns c =
    let entries : c.into_iter-entry-iterator.result.a.rest.now ≡ c.args.entries.now =
    rw (c.into_iter-entry-iterator.ensures.into_iter_gives, c.zip-entry-items.ensures.first) c.iter.ensures.rest in
    let distances : c.into_iter-entry-iterator.result.b.rest.now ≡ c.args.distances.now =
    rw c.into_iter-entry-iterator.ensures.into_iter_gives c.zip-entry-items.ensures.second.0 in
    let e = zip_end _ _ c.loop-entry.yielded c.into_iter-entry-iterator.result _ c.next.new.self _ entries distances c.loop-entry.yielded_by c.in-None.is c.next.ensures.steps in
    let all : length c.loop-entry.yielded ≡ length c.args.entries.now = omega (arith, e) in
    record { wrote = rw (← all) c.loop-entry.invariant.wrote; short = omega (arith, all, c.loop-entry.invariant.short) }
