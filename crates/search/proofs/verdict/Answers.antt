-- `search::verdict` meets its contract. Assumes nothing.
use mathlib.Core.Path.{ap, ◌∙◌}
use Rattle.scope.specs.Tables.{Index}
use Rattle.search.proofs.Plain.{plain_verdict}
use Rattle.search.proofs.verdict.Goals as goal

pub returns : goal.returns
returns c =
    let w = ap (λ (x : Index). x.shape.w) c.index.view_is in
    c.verdict_masked.ensures ∙ plain_verdict c.args.index.now c.args.query.now c.all_ones-mask.result.now (rw w at c.all_ones-mask.ensures) _ _ _
