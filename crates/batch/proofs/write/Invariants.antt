-- `batch::write` meets its contract: so many records are written. Assumes nothing.
use mathlib.Core.Path.{◌≡◌}
use Rattle.theory.specs.Lists.{tab, over}
use Rattle.scope.specs.Batch.{record_from}
use Rattle.batch.proofs.write.Given as goal

abbrev pub invariant-loop-place : goal.invariant-loop-place
invariant-loop-place l = l.records ≡ over (tab (record_from l.stars l.answers l.entries l.distances) l.place) l.initial.records
