-- `search::nearest` meets its contract. Assumes nothing.
use mathlib.Core.Path.{ap, ◌∙◌}
use Rattle.scope.specs.Tables.{Index}
use Rattle.search.proofs.Plain.{plain_nearest}
use Rattle.search.proofs.nearest.Goals as goal

pub returns : goal.returns
returns c =
    let w = ap (λ (x : Index). x.shape.w) c.index.view_is in
    c.nearest_masked.ensures ∙ plain_nearest c.args.index.now c.args.query.now c.all_ones-mask.result.now (rw w at c.all_ones-mask.ensures) _ _ _ _
