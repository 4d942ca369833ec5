use native.Mathlib.Omega.{arith}
use Rattle.masks.proofs.Cleared.{cleared-none, cleared_some, cleared_more}
use Rattle.masks.proofs.lowest.Goals as goal

pub loop-init : goal.loop-init
loop-init c = cleared-none _

pub loop-preserved : goal.loop-preserved
loop-preserved c = cleared_more _ _ _ c.loop.invariant (cleared_some _ _ _ c.loop.invariant (omega arith))
