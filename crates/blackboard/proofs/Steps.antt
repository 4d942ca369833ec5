-- What holds of a step R of a listed shape: its radius is in the square table, and a table has few buckets open. Assumes nothing.
use mathlib.Core.Path.{◌≡◌}
use mathlib.Core.Bool.{true, cond}
use mathlib.Core.List.{List}
use Prim.Native.Nat.{ℕ, ◌+◌, ◌/◌, ◌%◌, ◌≤◌}
use native.Mathlib.Nat.{div-lt_iff_lt-mul, le_of_suc-le-suc}
use native.Mathlib.Omega.{arith}
use lib.Dec.{leb}
use lib.Pow.{pow_mono}
use Rattle.theory.specs.Lists.{sum}
use Rattle.theory.proofs.Sums.{sum-le}
use Rattle.theory.proofs.Masks.{L-le, masks-le}
use Rattle.scope.specs.declared.Shape.{Shape}
use Rattle.scope.specs.Shape.{q, listed, m, first_bit, len}
use Rattle.scope.specs.Codes.{substring}
use Rattle.scope.specs.Walk.{open_in, open_in_under}
use Rattle.scope.proofs.Codes.{substring-lt}
use Rattle.scope.proofs.Shapes.{facts}

module _ (sh : Shape) (R : ℕ) (h : listed sh ≡ true) where
  pub few_radii : R ≤ q sh → R / m sh ≤ 16
  few_radii l =
      let f = facts sh h in
      le_of_suc-le-suc ((div-lt_iff_lt-mul f.some_tables).1 (omega (arith, f.some_tables, f.whole, sum-le (len sh) 16 (m sh) (λ z _. f.few_bits z))))

  -- as many as there are buckets, or fewer
  few_under : (mask : List ℕ) (z : ℕ) → open_in_under sh mask R z ≤ 65536
  few_under mask z =
      let f = facts sh h in
      let under = substring (first_bit sh z) (len sh z) mask in
      omega (arith, masks-le (len sh z) under (substring-lt (first_bit sh z) (len sh z) mask) (cond (leb z (R % m sh)) (R / m sh + 1) (R / m sh)), pow_mono (f.few_bits z))

  few_open : (z : ℕ) → open_in sh R z ≤ 65536
  few_open z =
      let f = facts sh h in
      omega (arith, L-le (len sh z) (cond (leb z (R % m sh)) (R / m sh + 1) (R / m sh)), pow_mono (f.few_bits z))

  -- and all tables have few open
  pub small : (z : ℕ) → z ≤ 64 → sum (open_in sh R) z ≤ 4194304
  small z l = omega (arith, sum-le (open_in sh R) 65536 z (λ z _. few_open z))

  pub small_under : (mask : List ℕ) (z : ℕ) → z ≤ 64 → sum (open_in_under sh mask R) z ≤ 4194304
  small_under mask z l = omega (arith, sum-le (open_in_under sh mask R) 65536 z (λ z _. few_under mask z))
