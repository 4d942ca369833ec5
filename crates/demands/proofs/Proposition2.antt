-- Proposition 2 of 003, over any cut of a code into m substrings; and over the tables of a listed shape. Assumes nothing.
use mathlib.Core.Path.{◌≡◌}
use mathlib.Core.Logic.{inl, inr, ⊎_elim}
use mathlib.Core.Bool.{true}
use mathlib.Core.List.{List}
use Prim.Native.Nat.{ℕ, ◌+◌, ◌*◌, ◌≤◌, ◌<◌}
use native.Mathlib.Omega.{arith}
use Rattle.theory.specs.Lists.{sum}
use Rattle.theory.proofs.Tests.{lt-or-le}
use Rattle.theory.proofs.Pigeon.{pigeon_step}
use Rattle.scope.specs.declared.Shape.{Shape}
use Rattle.scope.specs.Shape.{q, listed, m, first_bit, len}
use Rattle.scope.proofs.Codes.{distance_cuts, distance-tables, under_cuts, under-tables}
use Rattle.demands.specs.Neighbours.{Neighbour, NeighbourUnder, apart_in, apart_under, OneClose}
use Rattle.theory.proofs.Radii.{radius_first, radius_rest}

by_radii : (apart : ℕ → ℕ) (m r' a : ℕ) → a < m → sum apart m ≤ m * r' + a → OneClose apart m r' a
by_radii apart m r' a h l =
    let (z, below, step) = pigeon_step apart m (r' * m + a) (omega arith) (omega arith) in
    go z below step
  where
    go : (z : ℕ) → z < m → apart z * m + z ≤ r' * m + a → OneClose apart m r' a
    go z below step =
        ⊎_elim (λ (rest : a < z). inr (z, rest, below, omega (arith, radius_rest m r' a z (apart z) rest step)))
        (λ (first : z ≤ a). inl (z, first, radius_first m r' a z (apart z) h step)) (lt-or-le a z)

-- if h and g differ in r = m·r' + a bits or less, a below m, then (3a) or (3b)
pub proposition_2 : (len : ℕ → ℕ) (m r' a : ℕ) (h g : List ℕ) → a < m → Neighbour (sum len m) (m * r' + a) h g
    → OneClose (λ z. apart_in (sum len z) (len z) h g) m r' a
proposition_2 len m r' a h g l near =
    by_radii (λ z. apart_in (sum len z) (len z) h g) m r' a l (omega (arith, distance_cuts len m h g))

pub proposition_2_tables : (sh : Shape) → listed sh ≡ true → (r' a : ℕ) (h g : List ℕ) → a < m sh → Neighbour (q sh) (m sh * r' + a) h g
    → OneClose (λ z. apart_in (first_bit sh z) (len sh z) h g) (m sh) r' a
proposition_2_tables sh ls r' a h g l near =
    by_radii (λ z. apart_in (first_bit sh z) (len sh z) h g) (m sh) r' a l (omega (arith, distance-tables sh ls h g))

-- and of the bits under a mask
pub proposition_2_under : (mask : List ℕ) (len : ℕ → ℕ) (m r' a : ℕ) (h g : List ℕ) → a < m → NeighbourUnder mask (sum len m) (m * r' + a) h g
    → OneClose (λ z. apart_under mask (sum len z) (len z) h g) m r' a
proposition_2_under mask len m r' a h g l near =
    by_radii (λ z. apart_under mask (sum len z) (len z) h g) m r' a l (omega (arith, under_cuts mask len m h g))

pub proposition_2_under-tables : (sh : Shape) → listed sh ≡ true → (mask : List ℕ) (r' a : ℕ) (h g : List ℕ) → a < m sh → NeighbourUnder mask (q sh) (m sh * r' + a) h g
    → OneClose (λ z. apart_under mask (first_bit sh z) (len sh z) h g) (m sh) r' a
proposition_2_under-tables sh ls mask r' a h g l near =
    by_radii (λ z. apart_under mask (first_bit sh z) (len sh z) h g) (m sh) r' a l (omega (arith, under-tables sh ls mask h g))
