-- `Accepted::of` meets its contract: the early check decides, and an index that it lets pass fits. Assumes nothing.
use mathlib.Core.Path.{sym, ap, ◌∙◌}
use Rattle.std.specs.Prelude.{Ok}
use Rattle.scope.specs.Tables.{Index}
use Rattle.scope.specs.Refusals.{one_to_three}
use Rattle.scope.proofs.Rows.{unless-none, passed, passed_on, refuses_all}
use Rattle.shapes.proofs.Accepting.{let_pass}
use Rattle.shapes.proofs.accepted.Accepted.of.Goals as goal

pub returns-in_err-refused_early : goal.returns-in_err-refused_early
returns-in_err-refused_early c = passed_on c.from_residual.ensures.1 ∙ sym (refuses_all (one_to_three _) tt c.in_err-refused_early.ensures (Ok _))

pub invariant_of-result : goal.invariant_of-result
invariant_of-result c = rw (ap (λ (x : Index). x.shape) c.index.view_is) (let_pass _ c.in_ok-refused_early.ensures).known

pub invariant_of-result-2 : goal.invariant_of-result-2
invariant_of-result-2 c = rw c.index.view_is (let_pass _ c.in_ok-refused_early.ensures)

pub returns : goal.returns
returns c = rw c.index.view_is (sym (unless-none (one_to_three _) _ _ (passed (one_to_three _) tt c.in_ok-refused_early.ensures).0))
