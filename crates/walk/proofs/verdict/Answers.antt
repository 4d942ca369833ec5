-- `walk::verdict` meets its contract. Assumes nothing.
use mathlib.Core.Path.{sym, ◌∙◌}
use native.Mathlib.Omega.{arith}
use Rattle.scope.specs.Shape.{q}
use Rattle.scope.specs.Tables.{n}
use Rattle.scope.proofs.Steps.{verdict-none}
use Rattle.scope.proofs.Walking.{tested-none}
use Rattle.walk.proofs.Asked.{of_asked, of_index}
use Rattle.walk.proofs.Joining.{best_none}
use Rattle.walk.proofs.Stepping
use Rattle.walk.proofs.verdict.Goals as goal

pub returns-then-entries-eq0 : goal.returns-then-entries-eq0
returns-then-entries-eq0 c =
    let none = best_none _ _ _ (tested-none c.args.ask.now) _ c.start.ensures.rivals.0 c.start.ensures.rivals.1 in
    let e = sym (of_asked n c.ask.view_is c.entries.ensures.value) ∙ c.if-entries-eq0.true in
    rw (verdict-none c.args.ask.now e) (Stepping.walked_none _ _ _ _ _ c.start.ensures c.requires none)

pub returns : goal.returns
returns c =
    let top = of_index (λ x. q x.shape) c.index.view_is c.ask.view_is c.q.ensures.value in
    let e = of_asked n c.ask.view_is c.entries.ensures.value in
    let ne = c.if-entries-eq0.false in
    Stepping.walked_as _ _ _ _ (Stepping.verdict_steps_lem c.args.ask.now (omega arith)) _ _ _ (rw top at c.take_steps.ensures)
