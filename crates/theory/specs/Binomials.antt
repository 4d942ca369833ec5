-- The binomials, and the sums of the first of them. Assumes nothing.
use Rattle.std.specs.Prelude.{ℕ, zero, suc, ◌+◌}
use Rattle.theory.specs.Lists.{sum}

-- C(s, i), by Pascal's rule; 0 for i above s
unfoldable pub binomial : ℕ → ℕ → ℕ
binomial s zero = 1
binomial zero (suc i) = 0
binomial (suc s) (suc i) = binomial s i + binomial s (suc i)

-- the sum of the first k binomials: 01's L(s, r) is `L s (r + 1)`, and its L(s, r − 1) is `L s r`, 0 for r = 0
abbrev pub L : ℕ → ℕ → ℕ
L s k = sum (binomial s) k
