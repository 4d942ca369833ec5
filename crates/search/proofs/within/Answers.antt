-- `search::within` meets its contract. Assumes nothing.
use mathlib.Core.Path.{ap, ◌∙◌}
use Rattle.scope.specs.Tables.{Index}
use Rattle.search.proofs.Plain.{plain_within}
use Rattle.search.proofs.within.Goals as goal

pub returns : goal.returns
returns c =
    let w = ap (λ (x : Index). x.shape.w) c.index.view_is in
    c.within_masked.ensures ∙ plain_within c.args.index.now c.args.query.now c.all_ones-mask.result.now (rw w at c.all_ones-mask.ensures) _ _ _ _
