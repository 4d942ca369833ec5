-- Marks: a list of words in which bit i says whether entry i is marked. Assumes nothing.
use Rattle.std.specs.Prelude.{Bool, List, ℕ, ◌/◌, ◌%◌, ◌^◌, eqb, get_or, set}
use Rattle.std.specs.Int.Bits.{bit_or}
use Rattle.scope.specs.Codes.{bit}

unfoldable pub is_marked : List ℕ → ℕ → Bool
is_marked marks i = eqb (bit marks i) 1

-- entry i marked, the others as they were
unfoldable pub with_mark : List ℕ → ℕ → List ℕ
with_mark marks i = set marks (i / 64) (bit_or (get_or marks (i / 64) 0) (2 ^ (i % 64)))
