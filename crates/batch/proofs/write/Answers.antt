use mathlib.Core.Path.{◌≡◌, sym, ap, ◌∙◌}
use Prim.Native.Nat.{ℕ}
use native.Mathlib.Omega.{arith}
use lib.ListN.{length, set}
use Rattle.theory.specs.Lists.{tab, over}
use Rattle.theory.proofs.Filling.{fill_none, fill-next, fill-all}
use Rattle.scope.specs.declared.Answer.{Answer}
use Rattle.scope.specs.Batch.{record_from}
use Rattle.batch.proofs.write.Goals as goal

pub loop-place-init : goal.loop-place-init
loop-place-init c = sym (fill_none _ c.args.records.now)

pub loop-place-preserved : goal.loop-place-preserved
loop-place-preserved c =
    (λ j. set (c.loop-place.invariant j) c.loop-place.place (c.pick.ensures j)) ∙ fill-next _ c.args.records.now c.loop-place.place c.loop-place-test.true

pub returns : goal.returns
returns c =
    let all : c.loop-place.place ≡ length c.args.records.now = omega (arith, c.loop-place-test.false, c.loop-place.auto.place-end) in
    let f : ℕ → Answer = record_from c.args.stars.now c.args.answers c.args.entries.now c.args.distances.now in
    c.loop-place.invariant ∙ ap (λ (j : ℕ). over (tab f j) c.args.records.now) all ∙ fill-all f c.args.records.now
