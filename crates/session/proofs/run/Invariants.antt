-- `session::run` meets its contract. It ends: each turn but the last has one record more, and no session more than 65,535. Assumes nothing.
use Rattle.std.proofs.Common.{◌-◌}
use Rattle.session.proofs.run.Given as goal

abbrev pub decreases-loop-got : goal.decreases-loop-got
decreases-loop-got g l = 65536 - l.session.records
