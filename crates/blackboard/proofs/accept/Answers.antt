-- `blackboard::accept` meets its contract: each answer by the tests that led there. Assumes nothing.
use Rattle.std.specs.Prelude.{Ok, Err}
use mathlib.Core.Path.{◌≡◌, ap, ◌∙◌}
use mathlib.Core.Bool.{true}
use Prim.Native.Nat.{ℕ}
use borrow.Author.Tests.{lt-ltb, le-ltb}
use Rattle.theory.specs.Lists.{any}
use Rattle.scope.specs.declared.Shape.{Shape}
use Rattle.scope.specs.Shape.{q, listed}
use Rattle.scope.specs.Refusals.{unless, unlisted}
use Rattle.scope.proofs.Rows.{passed_on}
use Rattle.shapes.proofs.Accepting.{accepts, refuses_first}
use Rattle.blackboard.proofs.accept.Goals as goal

known : (sh : Shape) {s : Shape} {top : ℕ} → Ok s ≡ unless (unlisted sh) Err (Ok sh) → top ≡ q s → (listed sh ≡ true) × (s ≡ sh) × (top ≡ q sh)
known sh e top = let (listed, same) = accepts sh e in (listed, same, top ∙ ap q same)

pub returns-in_err-shape : goal.returns-in_err-shape
returns-in_err-shape c = passed_on c.from_residual.ensures.1 ∙ refuses_first _ _ _ c.in_err-shape.ensures

pub returns-then-q-step : goal.returns-then-q-step
unfolding unless any
returns-then-q-step c =
    let (listed, _, top) = known _ c.in_ok-shape.ensures c.q.ensures.value in
    rw (listed, lt-ltb (q c.args.shape) c.args.step (rw (← top) c.if-q-step.true))

pub returns : goal.returns
unfolding unless any
returns c =
    let (listed, same, top) = known _ c.in_ok-shape.ensures c.q.ensures.value in
    rw (listed, le-ltb (q c.args.shape) c.args.step (rw (← top) c.if-q-step.false)) (ap Ok same)
