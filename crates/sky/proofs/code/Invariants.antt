-- `sky::code` meets its contract: the stars before the count have passed, with their code, and the others are left; a refused star ends the loop. Assumes nothing.
use Prim.Native.Nat.{◌≤◌}
use lib.ListN.{length}
use Rattle.sky.proofs.Pairs.{Left}
use Rattle.sky.proofs.Stars.{Fitting, Passed}
use Rattle.sky.proofs.code.Given as goal

abbrev pub invariant-loop-k : goal.invariant-loop-k
invariant-loop-k l =
    (l.k-iterator.count ≤ length l.across) × Left l.across l.up l.k-iterator × Fitting l.unit l.across l.up × Passed l.unit l.across l.up l.k-iterator.count l.code
