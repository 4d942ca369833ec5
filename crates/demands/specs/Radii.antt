-- The buckets that the blackboard counts. Assumes nothing.
use Rattle.std.specs.Prelude.{Bool, ◌&&◌, cond, ℕ, ◌+◌, ltb, leb}
use Rattle.std.specs.Int.Bits.{bit_and, bit_xor}
use Rattle.std.specs.Int.Count.{ones}
use Rattle.theory.specs.Lists.{tab, any}
use Rattle.scope.specs.declared.Shape.{Shape}
use Rattle.scope.specs.Codes.{substring}
use Rattle.scope.specs.Shape.{m, first_bit, len, size}
use Rattle.scope.specs.Tables.{substring_of}
use Rattle.scope.specs.Walk.{Question}

-- bucket v of table z is within r bits of the query in tables 0 to a, within r − 1 bits in the rest, `apart z v` being in how many bits it differs
abbrev pub in_radii : (sh : Shape) (apart : ℕ → ℕ → ℕ) (r a z v : ℕ) → Bool
in_radii sh apart r a z v = ltb z (m sh) && ltb v (size sh z) && cond (leb z a) (leb (apart z v) r) (leb (apart z v + 1) r)

module _ (ask : Question) where
  -- in how many bits v differs from the query's substring z; and in how many under the mask
  abbrev pub differing : ℕ → ℕ → ℕ
  differing z v = let sh = ask.index.shape in ones (bit_xor (substring (first_bit sh z) (len sh z) ask.query) v)

  abbrev pub apart : ℕ → ℕ → ℕ
  apart z v =
      let sh = ask.index.shape in
      ones (bit_and (bit_xor (substring (first_bit sh z) (len sh z) ask.query) v) (substring (first_bit sh z) (len sh z) ask.mask))

  unfoldable pub in_radius : (r a z v : ℕ) → Bool
  in_radius r a z v = in_radii ask.index.shape apart r a z v

  -- entry i's own bucket is in its radius in some table
  unfoldable pub candidate : (r a i : ℕ) → Bool
  candidate r a i = any (λ z. in_radius r a z (substring_of ask.index z i)) (tab (λ z. z) (m ask.index.shape))
