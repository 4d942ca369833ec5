-- Step d·m + z opens table z at distance d: after step R = r·m + a, that is distance r in tables 0 to a, and r − 1 in the rest. Assumes nothing.
use mathlib.Core.Path.{◌≡◌}
use mathlib.Core.Logic.{⊎_elim}
use mathlib.Core.Bool.{cond}
use Prim.Native.Nat.{ℕ, ◌+◌, ◌*◌, ◌≤◌, ◌<◌}
use native.Mathlib.Nat.{mul-le-mul_right}
use native.Mathlib.Omega.{arith}
use lib.Dec.{ltb, leb}
use borrow.Author.Tests.{lt-ltb, le-leb, lt-leb, leb-true, ltb-true}
use Rattle.theory.proofs.Tests.{lt-or-le, same_test}

pub radius_first : (m r a z d : ℕ) → a < m → d * m + z ≤ r * m + a → d ≤ r
radius_first m r a z d h l = ⊎_elim (λ (far : r < d). absurd (omega (arith, mul-le-mul_right m far))) (λ g. g) (lt-or-le r d)

pub radius_rest : (m r a z d : ℕ) → a < z → d * m + z ≤ r * m + a → d < r
radius_rest m r a z d h l = ⊎_elim (λ g. g) (λ (far : r ≤ d). absurd (omega (arith, mul-le-mul_right m far))) (lt-or-le d r)

-- and back
pub by_radius : (m r a z d : ℕ) → a < m → z < m → ltb (d * m + z) (r * m + a + 1) ≡ cond (leb z a) (leb d r) (leb (d + 1) r)
by_radius m r a z d ha hz =
    ⊎_elim
    (λ (rest : a < z).
    rw (lt-leb z a rest)
    (same_test _ (leb (d + 1) r) (λ e. le-leb (d + 1) r (omega (arith, radius_rest m r a z d rest (let l = ltb-true (d * m + z) (r * m + a + 1) e in omega arith))))
    (λ e. lt-ltb (d * m + z) (r * m + a + 1) (let l = leb-true (d + 1) r e in omega (arith, mul-le-mul_right m l)))))
    (λ (first : z ≤ a).
    rw (le-leb z a first)
    (same_test _ (leb d r) (λ e. le-leb d r (radius_first m r a z d ha (let l = ltb-true (d * m + z) (r * m + a + 1) e in omega arith)))
    (λ e. lt-ltb (d * m + z) (r * m + a + 1) (let l = leb-true d r e in omega (arith, mul-le-mul_right m l)))))
    (lt-or-le a z)
