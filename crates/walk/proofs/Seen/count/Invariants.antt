-- `walk::Seen::count` meets its contract. The loop's invariant: `near` are within the limit, `nearer` are nearer, and where it went down k or more are within it. Assumes nothing.
use mathlib.Core.Path.{◌≡◌}
use mathlib.Core.Logic.{◌⊎◌}
use mathlib.Core.List.{List}
use Prim.Native.Nat.{ℕ, ◌+◌, ◌≤◌}
use Rattle.walk.specs.Limits.{below}
use Rattle.walk.proofs.Seen.count.Given as goal

pub record Low (k : ℕ) (tally : List ℕ) (limit near last nearer : ℕ) : Type 0 where
  pub down : last ≤ limit
  pub near_is : near ≡ below tally (last + 1)
  pub nearer-is : nearer ≡ below tally last
  pub enough : (k ≤ near) ⊎ (last ≡ limit)

abbrev pub invariant-loop-nearer : goal.invariant-loop-nearer
invariant-loop-nearer l = Low l.k l.tally l.initial.last l.near l.last l.nearer

abbrev pub decreases-loop-nearer : goal.decreases-loop-nearer
decreases-loop-nearer l = l.last
