-- Neighbours as 003 has them, and a catalogue's entries in 01's order, by a plain scan that reads no table. Assumes nothing.
use Rattle.std.specs.Prelude.{◌⊎◌, true, List, ℕ, ◌+◌, ◌-◌, ◌≤◌, ◌<◌, get_or}
use Rattle.std.specs.Int.Bits.{bit_and, bit_xor}
use Rattle.std.specs.Int.Count.{ones}
use Rattle.theory.specs.Lists.{ranked}
use Rattle.scope.specs.Codes.{distance, distance_under, substring}
use Rattle.scope.specs.Shape.{q}
use Rattle.scope.specs.Tables.{n}
use Rattle.scope.specs.Walk.{Question, distance_of}

-- a code of q bits is an r-neighbour of another if it differs from it in r bits or less
abbrev pub Neighbour : (q r : ℕ) → List ℕ → List ℕ → Type 0
Neighbour q r h g = distance q h g ≤ r

-- in how many bits their substrings of the bits `from` to from + len − 1 differ
abbrev pub apart_in : (from len : ℕ) → List ℕ → List ℕ → ℕ
apart_in from len h g = ones (bit_xor (substring from len h) (substring from len g))

-- both of the bits under a mask
abbrev pub NeighbourUnder : (mask : List ℕ) (q r : ℕ) → List ℕ → List ℕ → Type 0
NeighbourUnder mask q r h g = distance_under mask q h g ≤ r

abbrev pub apart_under : (mask : List ℕ) (from len : ℕ) → List ℕ → List ℕ → ℕ
apart_under mask from len h g = ones (bit_and (bit_xor (substring from len h) (substring from len g)) (substring from len mask))

-- Proposition 2's two cases, `apart z` being that number for substring z: (3a) one of the substrings 0 to a differs in r' bits or less;
-- (3b) one of the others, up to m, differs in r' − 1 bits or less
abbrev pub OneClose : (apart : ℕ → ℕ) (m r' a : ℕ) → Type 0
OneClose apart m r' a = ((z : ℕ) × (z ≤ a) × (apart z ≤ r')) ⊎ ((z : ℕ) × (a < z) × (z < m) × (apart z + 1 ≤ r'))

module _ (ask : Question) where
  -- the entries that differ from the query in r bits or less, by distance and then by entry number
  unfoldable pub neighbours : ℕ → List ℕ
  neighbours r = ranked (distance_of ask) (λ _. true) (n ask.index) (r + 1)

  -- all entries in that order
  abbrev pub every_entry : List ℕ
  every_entry = neighbours (q ask.index.shape)

  -- the K-th smallest distance, for K from 1 to n
  unfoldable pub kth_distance : ℕ → ℕ
  kth_distance K = distance_of ask (get_or every_entry (K - 1) 0)
