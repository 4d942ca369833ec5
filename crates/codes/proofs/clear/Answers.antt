use mathlib.Core.Path.{◌≡◌, sym, ap, ◌∙◌}
use mathlib.Core.List.{◌++◌}
use native.Mathlib.Omega.{arith}
use lib.ListN.{length, set, take, drop}
use lib.Seq.{length-take-le}
use Rattle.theory.specs.Lists.{over, tab}
use Rattle.theory.proofs.Filling.{over-tab, fill_none, fill-next, fill-all}
use Rattle.codes.proofs.clear.Goals as goal

pub loop-x-init : goal.loop-x-init
loop-x-init g c = sym (fill_none _ _)

pub loop-x-preserved : goal.loop-x-preserved
loop-x-preserved g c =
    let z = g.T.Zero.ZERO in
    rw c.ZERO.ensures (ap (λ l. set l c.loop-x.x-index z) c.loop-x.invariant ∙ fill-next (λ _. z) _ c.loop-x.x-index (omega arith))

pub returns : goal.returns
returns g c =
    let z = g.T.Zero.ZERO in
    let n = c.args.n in
    let long : length (take n c.args.list.now) ≡ n = length-take-le n c.args.list.now c.requires in
    let passed : c.loop-x.x-index ≡ length (take n c.args.list.now) = omega arith in
    let all : c.loop-x.x-items ≡ tab (λ _. z) n = c.loop-x.invariant ∙ ap (λ k. over (tab (λ _. z) k) (take n c.args.list.now)) passed ∙ fill-all (λ _. z) (take n c.args.list.now) ∙ ap (tab (λ _. z)) long in
    ap (λ l. l ++ drop n c.args.list.now) all ∙ sym (over-tab (λ _. z) c.args.list.now n)
