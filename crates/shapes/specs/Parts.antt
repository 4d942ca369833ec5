-- A table's own part of the two lists. Assumes nothing.
use Rattle.std.specs.Prelude.{List, ℕ, ◌+◌, ◌*◌, take, drop}
use Rattle.scope.specs.Shape.{size, starts_before}
use Rattle.scope.specs.Tables.{Index, n}

-- start(0) to start(2^s)
abbrev pub own_starts : Index → ℕ → List ℕ
own_starts x z = take (size x.shape z + 1) (drop (starts_before x.shape z) x.starts)

-- and its n ids
abbrev pub own_ids : Index → ℕ → List ℕ
own_ids x z = take (n x) (drop (z * n x) x.ids)
