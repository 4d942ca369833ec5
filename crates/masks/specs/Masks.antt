-- Numbers by their ones under a mask: those that the mask has too. Assumes nothing.
use Rattle.std.specs.Prelude.{◌≡◌, Bool, ℕ, ◌+◌, ◌%◌, ◌^◌, eqb}
use Rattle.std.specs.Int.Bits.{bit_and}
use Rattle.std.specs.Int.Count.{ones, count_trailing_zeros}

-- e has r ones under the mask
abbrev pub has_ones : ℕ → ℕ → ℕ → Bool
has_ones under r e = eqb (ones (bit_and e under)) r

-- y is the lowest k ones of the mask
pub record Lowest (under k y : ℕ) : Type 0 where
  pub place : ℕ
  pub part : y ≡ under % 2 ^ place
  pub many : ones y ≡ k

-- the place to which adding 1 to e carries when the mask's ones below place t are filled in; t is the place of e's lowest one under the mask, or 16
unfoldable pub carry_place : ℕ → ℕ → ℕ
carry_place under e = let t = count_trailing_zeros 64 (bit_and e under + 65536) in count_trailing_zeros 64 (e + under % 2 ^ t + 1)
