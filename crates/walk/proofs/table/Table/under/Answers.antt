-- `Table::under` meets its contract: a substring has at most 16 bits. Assumes nothing.
use mathlib.Core.Path.{ap, ◌∙◌}
use native.Mathlib.Omega.{arith}
use lib.ListN.{length}
use lib.Pow.{pow_mono}
use Rattle.scope.specs.Shape.{first_bit, len}
use Rattle.scope.specs.Walk.{Question}
use Rattle.scope.proofs.Codes.{substring-lt}
use Rattle.scope.proofs.Shapes.{facts}
use Rattle.walk.proofs.table.Table.under.Goals as goal

pub substring_of-requires : goal.substring_of-requires
substring_of-requires c = ap (λ (a : Question). length a.mask) c.ask.view_is ∙ c.args.self.now.asked.mask

pub overflow_cast-result : goal.overflow_cast-result
overflow_cast-result c =
    let t = c.args.self.now in
    let sh = t.ask.now.index.shape in
    omega (arith, c.substring_of.ensures, substring-lt (first_bit sh t.z) (len sh t.z) c.ask.inside.mask.now, pow_mono ((facts sh t.asked.lent.known).few_bits t.z))
