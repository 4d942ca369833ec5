-- `tables_run::sum` is safe and ends. Assumes nothing.
use Rattle.std.proofs.Common.{◌<◌}
use Rattle.tables_run.proofs.sum.Given as goal

abbrev pub invariant-loop-place : goal.invariant-loop-place
invariant-loop-place l = l.total < 1000003
