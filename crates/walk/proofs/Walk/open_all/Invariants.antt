-- `walk::Walk::open_all` meets its contract: the loop opens the buckets of the exclusive-ors that it visits, and visits all of r ones. Assumes nothing.
use mathlib.Core.Path.{◌≡◌}
use mathlib.Core.Bool.{true}
use mathlib.Core.List.{List}
use Prim.Native.Nat.{ℕ, min, ◌-◌, ◌≤◌, ◌<◌}
use lib.ListN.{length}
use Rattle.masks.specs.Masks.{has_ones}
use Rattle.scope.specs.Walk.{Question}
use Rattle.walk.specs.declared.Aim.{Aim}
use Rattle.walk.specs.declared.Walk.{Walk}
use Rattle.walk.specs.Steps.{around, Opening}
use Rattle.walk.proofs.Opening.{Clear}
use Rattle.walk.proofs.Walk.open_all.Given as goal

-- the buckets of the exclusive-ors below e are open, and e has r ones under the mask or is past the last
pub record Through (ask : Question) (goal : Aim) (z r sub buckets under : ℕ) (w o : Walk) (marks marks' tally tally' : List ℕ) (e : ℕ) : Type 0 where
  pub few : buckets ≤ 65536
  pub here : e < buckets → has_ones under r e ≡ true
  pub opened : Opening ask goal (around z under r sub (min e buckets)) w o Clear marks marks' tally'
  pub same-marks : length marks' ≡ length marks
  pub same-tally : length tally' ≡ length tally

abbrev pub invariant-loop-e : goal.invariant-loop-e
invariant-loop-e l = Through l.table.ask.now l.aim l.table.z l.r l.sub l.buckets l.under l.initial.self l.self l.initial.marks l.marks l.initial.tally l.tally l.e

abbrev pub decreases-loop-e : goal.decreases-loop-e
decreases-loop-e l = l.buckets - l.e
