use mathlib.Core.Path.{◌≡◌, refl, ◌∙◌}
use mathlib.Core.Logic.{inl, inr, ⊎_elim}
use mathlib.Core.List.{List}
use Prim.Native.Nat.{ℕ, ◌+◌, ◌-◌, ◌≤◌, ◌<◌}
use native.Mathlib.Numerals.{add-one}
use native.Mathlib.Omega.{arith}
use lib.ListN.{get_or}
use Rattle.theory.proofs.Sums.{sum-suc, sum-zero}
use Rattle.theory.proofs.Tests.{eq-or_ne}
use Rattle.walk.specs.Limits.{below, raised}
use Rattle.walk.proofs.Seen.count.Invariants.{Low}
use Rattle.walk.proofs.Seen.count.Goals as goal

-- those within d are the nearer ones and those at d
split : (tally : List ℕ) (d : ℕ) → below tally (d + 1) ≡ below tally d + get_or tally d 0
split tally d = rw (add-one d) (sum-suc (λ e. get_or tally e 0) d)

-- nothing is nearer than 0
above : (tally : List ℕ) (d : ℕ) → 0 < below tally d → 0 < d
above tally d h =
    ⊎_elim (λ (e : d ≡ 0). absurd (let z : below tally d ≡ 0 = sum-zero (λ e. get_or tally e 0) d (λ i l. absurd (omega arith)) in omega arith))
    (λ (ne : d ≡ 0 → ⊥). omega arith) (eq-or_ne d 0)

-- the limit goes down by one
module _ {k : ℕ} {tally : List ℕ} {limit near last nearer : ℕ} (low : Low k tally limit near last nearer) (some : 0 < k) (h : k ≤ nearer) where
  positive : 0 < last
  positive = above tally last (let e = low.nearer-is in omega arith)

  back : last - 1 + 1 ≡ last
  back = let p = positive in omega arith

  within : nearer ≡ below tally (last - 1) + get_or tally (last - 1) 0
  within = low.nearer-is ∙ rw (← back) (split tally (last - 1) ∙ rw back)

  next : Low k tally limit nearer (last - 1) (nearer - get_or tally (last - 1) 0)
  next =
      let down = low.down in
      record { down = omega arith; near_is = rw back low.nearer-is; nearer-is = omega (arith, within); enough = inl h }

-- all that are within the limit, with the one more
all : (l : List ℕ) (limit : ℕ) (near : ℕ) → near ≡ below l (limit + 1) → near ≡ below l limit + get_or l limit 0
all l limit near e = e ∙ split l limit

pub overflow_sub-nearer : goal.overflow_sub-nearer
overflow_sub-nearer c =
    omega (arith, all (raised c.args.tally.now c.args.d) c.args.self.limit _ c.requires.near)

pub loop-nearer-init : goal.loop-nearer-init
loop-nearer-init c =
    record { down = omega arith; near_is = c.requires.near; nearer-is = omega (arith, all (raised c.args.tally.now c.args.d) c.args.self.limit _ c.requires.near); enough = inr refl }

pub overflow_sub-last : goal.overflow_sub-last
overflow_sub-last c =
    omega (arith, positive c.loop-nearer.invariant c.requires.some (let t = c.loop-nearer-test.true in omega arith))

pub overflow_sub-nearer-in-loop-nearer : goal.overflow_sub-nearer-in-loop-nearer
overflow_sub-nearer-in-loop-nearer c =
    omega (arith, within c.loop-nearer.invariant c.requires.some (let t = c.loop-nearer-test.true in omega arith))

pub loop-nearer-smaller : goal.loop-nearer-smaller
loop-nearer-smaller c =
    omega (arith, positive c.loop-nearer.invariant c.requires.some (let t = c.loop-nearer-test.true in omega arith))

pub loop-nearer-preserved : goal.loop-nearer-preserved
loop-nearer-preserved c = next c.loop-nearer.invariant c.requires.some (let t = c.loop-nearer-test.true in omega arith)
