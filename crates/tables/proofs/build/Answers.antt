-- `tables::build` meets its contract. Assumes nothing.
use mathlib.Core.Path.{sym, ap, ◌∙◌}
use Rattle.scope.proofs.Rows.{passed, passed_on}
use Rattle.scope.specs.Tables.{Index}
use Rattle.scope.specs.Refusals.{one_to_three}
use Rattle.scope.proofs.Ends.{build-refused}
use Rattle.scope.specs.Calls.{builds}
use Rattle.tables.proofs.Answers.{accepted, refuses_build, end_done}
use Rattle.tables.proofs.build.Goals as goal

pub returns-in_err-accepted : goal.returns-in_err-accepted
returns-in_err-accepted c =
    ap (λ r. builds r c.args.starts.now c.args.ids.now) (passed_on c.from_residual.ensures.1)
    ∙ sym (build-refused _ _ (refuses_build _ c.in_err-accepted.ensures))

-- the shape that was accepted is the one that was handed in
pub fill-requires : goal.fill-requires
fill-requires c =
    let same = ap (λ (x : Index). x.shape) (c.accepted.view_is ∙ (passed (one_to_three _) _ c.in_ok-accepted.ensures).1) in
    rw same (accepted _ c.in_ok-accepted.ensures)

pub returns : goal.returns
returns c =
    let same = ap (λ (x : Index). x.shape) (c.accepted.view_is ∙ (passed (one_to_three _) _ c.in_ok-accepted.ensures).1) in
    let filled = rw same at c.fill.ensures in
    end_done _ _ _ (accepted _ c.in_ok-accepted.ensures) filled.starts_after filled.ids_after
