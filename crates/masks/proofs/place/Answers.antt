-- `masks::place` meets its contract. Assumes nothing.
use mathlib.Core.Path.{◌≡◌, ap, ◌∙◌}
use Prim.Native.Nat.{ℕ, ◌+◌, ◌-◌, ◌*◌, ◌%◌, ◌^◌, ◌≤◌}
use native.Mathlib.Nat.{one-mul, mod-eq_of_lt}
use native.Mathlib.Omega.{arith}
use lib.Bits.{bit_and, and_mask}
use lib.Count.{count_trailing_zeros}
use lib.Pow.{pow_mono}
use Rattle.masks.specs.Masks.{carry_place}
use Rattle.masks.proofs.Firsts.{filling}
use Rattle.masks.proofs.place.Goals as goal
use Rattle.masks.proofs.place.Goals.{Start}

abbrev At : Start → ℕ
At c = count_trailing_zeros 64 (bit_and c.args.e c.args.under + 65536)

low : (c : Start) → At c ≤ 16
low c = (filling c.args.under c.args.e (omega arith)).0

-- the shift stays within the word
shifted : (c : Start) → 1 * 2 ^ At c % 18446744073709551616 ≡ 2 ^ At c
shifted c = ap (λ (n : ℕ). n % 18446744073709551616) (one-mul (2 ^ At c)) ∙ mod-eq_of_lt (omega (arith, pow_mono (low c)))

-- the mask's ones below the place
filled : (c : Start) → bit_and c.args.under (1 * 2 ^ At c % 18446744073709551616 - 1) ≡ c.args.under % 2 ^ At c
filled c = ap (λ (n : ℕ). bit_and c.args.under (n - 1)) (shifted c) ∙ and_mask c.args.under (At c)

pub returns : goal.returns
unfolding carry_place
returns c = ap (λ (fill : ℕ). count_trailing_zeros 64 (c.args.e + fill + 1)) (filled c)
