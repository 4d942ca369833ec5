-- `walk::within` meets its contract. Assumes nothing.
use mathlib.Core.Path.{◌≡◌, sym, ◌∙◌}
use Prim.Native.Nat.{◌≤◌}
use native.Mathlib.Omega.{arith}
use borrow.Author.Tests.{eq-eqb, ne_eqb}
use Rattle.scope.specs.Shape.{q}
use Rattle.scope.specs.Search.{within_steps}
use Rattle.scope.specs.Tables.{n}
use Rattle.scope.specs.Walk.{Question, distance_of, star_of}
use Rattle.scope.proofs.Shapes.{facts}
use Rattle.walk.specs.Asked.{Asked}
use Rattle.walk.proofs.Asked.{of_asked}
use Rattle.walk.proofs.Stepping
use Rattle.walk.proofs.within.Goals as goal

top : {ask : Question} {r : _} → Asked ask → r ≤ q ask.index.shape → r ≤ 256
top a l = let w = (facts _ a.lent.known).few_words in omega arith

pub returns-then-entries-eq0 : goal.returns-then-entries-eq0
unfolding within_steps
returns-then-entries-eq0 c =
    let a = rw c.ask.view_is at c.ask.invariant in
    let none = Stepping.listing_none (star_of c.args.ask.now) (distance_of c.args.ask.now) _ _ _ _ c.requires.fresh _ _ _ (top a c.requires.r_bound) c.start.ensures in
    let e = sym (of_asked n c.ask.view_is c.entries.ensures.value) ∙ c.if-entries-eq0.true in
    rw (eq-eqb _ _ e) (Stepping.walked_none _ _ _ _ _ c.start.ensures c.requires.fresh none)

pub take_steps-requires : goal.take_steps-requires
take_steps-requires c =
    let a = rw c.ask.view_is at c.ask.invariant in
    let t = top a c.requires.r_bound in
    record { top_bound = (t, (omega arith, omega arith, t)); fresh = c.requires.fresh }

pub returns : goal.returns
unfolding within_steps
returns c =
    let a = rw c.ask.view_is at c.ask.invariant in
    let few = a.lent.few in
    let ne = λ (e : n c.args.ask.now.index ≡ 0). c.if-entries-eq0.false (of_asked n c.ask.view_is c.entries.ensures.value ∙ e) in
    rw (ne_eqb (n c.args.ask.now.index) 0 ne) (Stepping.walked_as _ _ _ _ (Stepping.all_steps c.args.ask.now 65537 c.args.r c.args.r (omega arith)) _ _ _ c.take_steps.ensures)
