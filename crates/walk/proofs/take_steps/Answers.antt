use mathlib.Core.Path.{◌≡◌, refl, subst, ◌∙◌}
use mathlib.Core.Bool.{false}
use mathlib.Core.List.{List}
use Prim.Native.Nat.{ℕ, ◌+◌, ◌≤◌}
use native.Mathlib.Nat.{mod-lt}
use native.Mathlib.Omega.{arith}
use lib.Dec.{ltb}
use borrow.Author.Tests.{lt-ltb, le-ltb}
use borrow.Author.Rules.{rules}
use Rattle.scope.specs.Shape.{m}
use Rattle.scope.specs.Walk.{Question, opens}
use Rattle.scope.proofs.Rows.{passed_on}
use Rattle.scope.proofs.Shapes.{facts}
use Rattle.scope.proofs.Walking.{opened_few}
use Rattle.walk.specs.declared.Aim.{Aim}
use Rattle.walk.specs.declared.Walk.{Walk}
use Rattle.walk.specs.Asked.{Asked}
use Rattle.walk.specs.Steps.{Met, Stepped, Sensible, enough_after}
use Rattle.walk.proofs.Asked.{of_index}
use Rattle.walk.proofs.Stepping
use Rattle.walk.proofs.Opening.{Clear}
use Rattle.walk.proofs.take_steps.Goals as goal
use Rattle.walk.proofs.take_steps.Goals.{After-open_all}

-- what the limit says, it says of the steps so far
told : {ask : Question} {goal : Aim} {N top : ℕ} {w : Walk} {marks tally : List ℕ} → Asked ask → (top ≤ 256) × Sensible goal top
    → Stepping.Far ask goal (enough_after ask goal) top N w marks tally → N ≤ top → enough_after ask goal N ≡ ltb w.seen.limit N
told {ask} {goal} {N} {top} {w} {marks} {tally} a b far l = Stepping.reached_is ask goal N w marks tally far.going top a.lent.few b.0 b.1 l

-- step N opens the buckets of its table, and nothing before it was enough
module _ (c : After-open_all) where
  abbrev N : ℕ
  N = c.loop-at.at

  reached : N ≤ c.args.top
  reached = omega arith

  not_yet : enough_after c.args.ask.now c.args.aim N ≡ false
  not_yet =
      let a = rw (c.own.view_is, c.again-own.ensures) at c.own.invariant in
      let within : N ≤ c.loop-at.w.seen.limit = omega arith in
      told a c.requires.top_bound c.loop-at.invariant.0 reached ∙ le-ltb _ _ within

  stepped : (end : Met) → c.open_all.result ≡ end → Stepped c.args.ask.now c.args.aim N c.open_all.new.self end c.open_all.new.marks c.open_all.new.tally
  unfolding opens
  stepped end is =
      let (ask, z) = c.of-table.ensures in
      let tables = of_index (λ x. m x.shape) c.index.view_is (c.own.view_is ∙ c.again-own.ensures) c.m-m.ensures in
      let step = Stepping.stepped _ _ N _ _ _ _ _ _ _ c.loop-at.invariant.0.going (rw (ask, z, c.again-own.ensures, tables) at c.open_all.ensures) in
      subst (λ (e : Met). Stepped c.args.ask.now c.args.aim N c.open_all.new.self e c.open_all.new.marks c.open_all.new.tally) is step

  further : c.open_all.result ≡ Clear
      → Stepping.Far c.args.ask.now c.args.aim (enough_after c.args.ask.now c.args.aim) c.args.top (N + 1) c.open_all.new.self c.open_all.new.marks c.open_all.new.tally
  further ok = Stepping.far-more _ _ _ _ _ _ _ _ c.loop-at.invariant.0 reached not_yet _ _ _ (stepped Clear ok)

pub loop-at-init : goal.loop-at-init
loop-at-init c = (Stepping.far_none _ _ _ _ _ _ _ c.requires.top_bound.1 c.start-w.ensures c.requires.fresh, refl, refl)

pub returns-then-w-at : goal.returns-then-w-at
returns-then-w-at c =
    let a = rw (c.own.view_is, c.again-own.ensures) at c.own.invariant in
    let far = c.loop-at.invariant.0 in
    let l : c.loop-at.at ≤ c.args.top = omega arith in
    Stepping.walked-enough _ _ _ _ _ _ _ _ far l (told a c.requires.top_bound far l ∙ lt-ltb _ _ c.if-w-at.true)

pub nonzero_rem-step : goal.nonzero_rem-step
nonzero_rem-step c = rw c.m-m.ensures (facts _ c.index.invariant.known).some_tables

pub of-table-requires : goal.of-table-requires
of-table-requires c =
    let a = rw (c.own.view_is, c.again-own.ensures) at c.own.invariant in
    let tables = of_index (λ x. m x.shape) c.index.view_is (c.own.view_is ∙ c.again-own.ensures) c.m-m.ensures in
    rw (tables, c.again-own.ensures) (mod-lt c.loop-at.at (facts _ a.lent.known).some_tables)

pub nonzero_div-r : goal.nonzero_div-r
nonzero_div-r c = rw c.m-m.ensures (facts _ c.index.invariant.known).some_tables

pub open_all-requires : goal.open_all-requires
open_all-requires c =
    let (ask, z) = c.of-table.ensures in
    let a = rw (c.own.view_is, c.again-own.ensures) at c.own.invariant in
    let going = c.loop-at.invariant.0.going in
    let l : c.loop-at.at ≤ c.args.top = omega arith in
    let t = c.requires.top_bound.0 in
    rw (ask, c.again-own.ensures) (record { room = omega (arith, going.opened, opened_few c.args.ask.now (facts _ a.lent.known) c.loop-at.at); counted = going.counted })

pub returns-in_err-open_all : goal.returns-in_err-open_all
returns-in_err-open_all c =
    let s : After-open_all = search in
    rw (passed_on c.from_residual.ensures.1) (Stepping.walked-bad _ _ _ _ _ _ _ _ c.loop-at.invariant.0 (reached s) (not_yet s) _ _ _ _ (stepped s _ c.in_err-open_all.was))

pub loop-at-preserved : goal.loop-at-preserved
loop-at-preserved c =
    let s : After-open_all = search in
    (further s c.in_ok-open_all.was, search rules, search rules)

pub returns-in_ok-open_all : goal.returns-in_ok-open_all
returns-in_ok-open_all c =
    let s : After-open_all = search in
    Stepping.walked_all _ _ _ _ _ _ _ _ (further s c.in_ok-open_all.was) (omega arith)
