-- What a table and a bucket of the walk name, in 01's words. Assumes nothing.
use Rattle.std.specs.Prelude.{Bool, List, ℕ}
use Rattle.scope.specs.Tables as tables
use Rattle.scope.specs.Tables.{Index}
use Rattle.scope.specs.Walk.{Question}
use Rattle.walk.specs.declared.table.Bucket.{Bucket}
use Rattle.walk.specs.declared.table.Table.{Table}

-- what is asked of the table
abbrev pub asked : Table → Question
asked t = t.ask.now

-- the bucket's index, and its two numbers: its table's and its own
abbrev pub index_of : Bucket → Index
index_of b = (asked b.table.now).index

abbrev pub numbers : Bucket → ℕ × ℕ
numbers b = (b.table.now.z, b.v)

abbrev pub is_bad : Bucket → Bool
is_bad b = tables.bad (index_of b) b.table.now.z b.v

-- the entries that it lists
abbrev pub listed : Bucket → List ℕ
listed b = tables.bucket (index_of b) b.table.now.z b.v
