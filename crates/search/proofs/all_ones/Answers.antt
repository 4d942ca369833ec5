-- `search::all_ones` meets its contract. Assumes nothing.
use mathlib.Core.Path.{◌≡◌, refl}
use mathlib.Core.List.{[], ◌∷◌}
use Prim.Native.Nat.{ℕ, zero, suc, ◌≤◌}
use native.Mathlib.Omega.{arith}
use lib.ListN.{take}
use Rattle.theory.specs.Lists.{cat}
use Rattle.scope.specs.Walk.{all_ones}
use Rattle.search.proofs.all_ones.Goals as goal

-- the first w words, for each w that a code may have
front : (w : ℕ) → w ≤ 4 → take w (18446744073709551615 ∷ 18446744073709551615 ∷ 18446744073709551615 ∷ 18446744073709551615 ∷ []) ≡ all_ones w
unfolding cat
front zero h = refl
front (suc zero) h = refl
front (suc (suc zero)) h = refl
front (suc (suc (suc zero))) h = refl
front (suc (suc (suc (suc zero)))) h = refl
front (suc (suc (suc (suc (suc w))))) h = absurd (omega arith)

pub returns : goal.returns
returns c h =
    let all : c.min.result ≡ c.args.w = omega arith in
    rw all (front c.args.w h)
