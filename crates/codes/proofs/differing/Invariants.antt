-- `codes::differing` meets its contract. The loop's invariant: r is the distance over the words passed. Assumes nothing.
use mathlib.Core.Path.{◌≡◌}
use Prim.Native.Nat.{◌*◌}
use Rattle.scope.specs.Codes.{distance_under}
use Rattle.codes.proofs.differing.Given as goal

abbrev pub invariant-loop-k : goal.invariant-loop-k
invariant-loop-k l = l.r ≡ distance_under l.mask (64 * l.k) l.code l.query
