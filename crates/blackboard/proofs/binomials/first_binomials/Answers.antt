-- `blackboard::binomials::first_binomials` meets its contract. Assumes nothing.
use Prim.Native.Nat.{ℕ, ◌≤◌, ◌<◌}
use native.Mathlib.Omega.{arith}
use lib.Pow.{pow_mono}
use Rattle.std.proofs.Common.{rules}
use Rattle.theory.specs.Binomials.{binomial, L}
use Rattle.theory.proofs.Masks.{L-le}
use Rattle.blackboard.proofs.Sums.{summed, sum_fits}
use Rattle.blackboard.proofs.binomials.first_binomials.Goals as goal

small : (s k : ℕ) → s < 17 → L s k ≤ 65536
small s k h = omega (arith, L-le s k, pow_mono (let l : s ≤ 16 = omega arith in l))

pub sum-requires-clause-fits : goal.sum-requires-clause-fits
sum-requires-clause-fits c =
    sum_fits _ (binomial c.args.s) c.args.k c.map.ensures.source c.map.ensures.closure (λ x r q k. search rules) _ (omega (arith, small c.args.s c.args.k c.requires.0))

pub returns : goal.returns
returns c = summed _ (binomial c.args.s) c.args.k c.map.ensures.source c.map.ensures.closure (λ x r q k. search rules) _ c.sum.ensures.ran
