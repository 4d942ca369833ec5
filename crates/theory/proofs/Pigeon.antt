-- Proposition 2 of 003: where m distances add up to at most R = r * m + a, one of them is small enough for its table to be open. Assumes nothing.
use mathlib.Core.Logic.{◌⊎◌, inl, inr, ⊎_elim}
use Prim.Native.Nat.{ℕ, zero, suc, ◌+◌, ◌*◌, ◌/◌, ◌%◌, ◌≤◌, ◌<◌, min}
use native.Mathlib.Nat.{mul-le-mul_right, div-add-mod', mod-lt, le_trans, le_of_eq}
use native.Mathlib.Omega.{arith}
use Rattle.theory.specs.Lists.{sum}
use Rattle.theory.proofs.Tests.{lt-or-le}

-- table z is open to distance d after step r * m + a: the tables up to a to r, the others to below r
unfoldable pub Open : (r a z d : ℕ) → Type 0
Open r a z d = ((z ≤ a) × (d ≤ r)) ⊎ ((a < z) × (d < r))

-- or it is not, and its distance is the larger
open-or : (r a z d : ℕ) → Open r a z d ⊎ (((z ≤ a) × (r < d)) ⊎ ((a < z) × (r ≤ d)))
unfolding Open
open-or r a z d =
    ⊎_elim
    (λ (h : a < z). ⊎_elim (λ (l : d < r). inl (inr (h, l))) (λ (g : r ≤ d). inr (inr (h, g))) (lt-or-le d r))
    (λ (h : z ≤ a). ⊎_elim (λ (l : r < d). inr (inl (h, l))) (λ (g : d ≤ r). inl (inl (h, g))) (lt-or-le r d))
    (lt-or-le a z)

-- among the first k tables one is open, or their distances add up to more
search_open : (d : ℕ → ℕ) (r a k : ℕ) → ((z : ℕ) × (z < k) × Open r a z (d z)) ⊎ (k * r + min k (suc a) ≤ sum d k)
unfolding sum
search_open d r a zero = inr (omega arith)
search_open d r a (suc k) =
    ⊎_elim (λ (f : (z : ℕ) × (z < k) × Open r a z (d z)). inl (f.0, omega arith, f.2))
    (λ (h : k * r + min k (suc a) ≤ sum d k).
    ⊎_elim (λ (o : Open r a k (d k)). inl (k, omega arith, o))
    (λ c. inr (⊎_elim (λ (n : (k ≤ a) × (r < d k)). omega arith) (λ (n : (a < k) × (r ≤ d k)). omega arith) c))
    (open-or r a k (d k)))
    (search_open d r a k)

pub pigeon : (d : ℕ → ℕ) (m r a : ℕ) → a < m → sum d m ≤ r * m + a → (z : ℕ) × (z < m) × Open r a z (d z)
pigeon d m r a h l = ⊎_elim (λ f. f) (λ (g : m * r + min m (suc a) ≤ sum d m). absurd (omega arith)) (search_open d r a m)

-- ---- the same by the step that opens: table z at distance d is opened by step d * m + z

pub open_step : (m r a z d : ℕ) → z < m → Open r a z d → d * m + z ≤ r * m + a
unfolding Open
open_step m r a z d h o =
    ⊎_elim (λ (b : (z ≤ a) × (d ≤ r)). omega (arith, mul-le-mul_right m b.1)) (λ (b : (a < z) × (d < r)). omega (arith, mul-le-mul_right m b.1)) o

pub pigeon_step : (d : ℕ → ℕ) (m R : ℕ) → 0 < m → sum d m ≤ R → (z : ℕ) × (z < m) × (d z * m + z ≤ R)
pigeon_step d m R h l =
    let e = div-add-mod' R m in
    let f = pigeon d m (R / m) (R % m) (mod-lt R h) (omega arith) in
    (f.0, f.1, le_trans (open_step m (R / m) (R % m) f.0 (d f.0) f.1 f.2) (le_of_eq e))
