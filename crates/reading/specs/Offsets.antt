-- The stars of a sky record: after the unit byte across and up as 8-byte f64 bits, star by star. Assumes nothing.
use Rattle.std.specs.Prelude.{ℕ, ◌+◌, ◌*◌, List, Float}
use Rattle.std.specs.Float.{binary64}
use Rattle.std.specs.Float.Ieee.{of_bits}
use Rattle.theory.specs.Lists.{tab}
use Rattle.reading.specs.Bytes.{number_at}

-- n f64s, at every 16th byte from place at on
abbrev pub angles_at : List ℕ → ℕ → ℕ → List Float
angles_at s at n = tab (λ i. of_bits binary64 (number_at 8 s (at + 16 * i))) n

-- of the record s of n stars: 2 bytes of length, 2 of kind, 1 of unit, then across, and 8 bytes on up
unfoldable pub across_of : List ℕ → ℕ → List Float
across_of s n = angles_at s 5 n

unfoldable pub up_of : List ℕ → ℕ → List Float
up_of s n = angles_at s 13 n
