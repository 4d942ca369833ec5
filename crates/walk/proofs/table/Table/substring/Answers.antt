-- `Table::substring` meets its contract. Assumes nothing.
use mathlib.Core.Path.{ap, ◌∙◌}
use lib.ListN.{length}
use Rattle.scope.specs.Walk.{Question}
use Rattle.walk.proofs.table.Table.substring.Goals as goal

pub substring_of-requires : goal.substring_of-requires
substring_of-requires c = ap (λ (a : Question). length a.query) c.ask.view_is ∙ c.args.self.now.asked.query
