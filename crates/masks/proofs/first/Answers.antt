-- `masks::first` meets its contract. Assumes nothing.
use native.Mathlib.Omega.{arith}
use Rattle.masks.proofs.Firsts.{first-over, first-lowest}
use Rattle.masks.proofs.first.Goals as goal

pub returns-then-under-r : goal.returns-then-under-r
returns-then-under-r c = first-over _ _ c.if-under-r.true

pub returns : goal.returns
returns c = first-lowest _ _ _ (omega arith) c.lowest.ensures
