-- Table z of a catalogue of n entries, as `buckets` takes it, and its parts of the two lists; whether they are what the builder writes. Assumes nothing.
use Rattle.std.specs.Prelude.{◌≡◌, Bool, ◌&&◌, List, ℕ, ◌+◌, ◌*◌}
use Rattle.theory.specs.Lists.{same}
use Rattle.scope.specs.declared.Shape.{Shape}
use Rattle.scope.specs.Shape.{first_bit, len, size, starts_before}
use Rattle.scope.specs.Tables.{Index, n, substring_of, starts_of, ids_of}
use Rattle.shapes.specs.Parts.{own_starts, own_ids}
use Rattle.tables.specs.declared.Part.{Part}

-- it goes by the bits of substring z; before its starts stand those of the tables before it, and before its ids theirs
pub record IsPart (shape : Shape) (n : ℕ) (codes : List ℕ) (z : ℕ) (p : Part) : Type 0 where
  pub codes_are : p.table.codes.words.now ≡ codes
  pub words : p.table.codes.w ≡ shape.w
  pub first : p.table.from ≡ first_bit shape z
  pub bits : p.table.bits ≡ len shape z
  pub entries : p.table.n ≡ n
  pub starts_from : p.starts.start ≡ starts_before shape z
  pub starts_end : p.starts.end ≡ starts_before shape (z + 1)
  pub ids_from : p.ids.start ≡ z * n
  pub ids_end : p.ids.end ≡ z * n + n

-- table z's part of each list is what the builder writes
unfoldable pub right : Index → ℕ → Bool
right x z =
    same (own_starts x z) (starts_of (substring_of x z) (n x) (size x.shape z))
    && same (own_ids x z) (ids_of (substring_of x z) (n x) (size x.shape z))
