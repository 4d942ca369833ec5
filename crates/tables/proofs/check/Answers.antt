-- `tables::check` meets its contract. Assumes nothing.
use mathlib.Core.Path.{sym, ap, ◌∙◌}
use Rattle.std.specs.Prelude.{Ok}
use Rattle.scope.proofs.Rows.{passed_on}
use Rattle.tables.proofs.Answers.{checked, refuses_check}
use Rattle.tables.proofs.check.Goals as goal

pub returns-in_err-accepted : goal.returns-in_err-accepted
returns-in_err-accepted c = passed_on c.from_residual.ensures.1 ∙ sym (refuses_check _ c.in_err-accepted.ensures)

pub returns : goal.returns
returns c = ap Ok c.all_right.ensures ∙ sym (checked _ c.in_ok-accepted.ensures)
