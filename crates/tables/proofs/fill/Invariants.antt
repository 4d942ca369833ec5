-- `tables::fill` meets its contract. The loop's invariant: the first z tables' parts are filled. Assumes nothing.
use Rattle.scope.specs.Tables.{index}
use Rattle.tables.proofs.Parts.{Filled}
use Rattle.tables.proofs.fill.Given as goal

abbrev pub invariant-loop-z : goal.invariant-loop-z
invariant-loop-z l = Filled (index l.shape l.stars l.codes l.initial.starts l.initial.ids) l.starts l.ids l.z
