-- What the verdict's judge is handed, and what it says. Assumes nothing.
use Rattle.std.specs.Prelude.{◌≡◌, List, [], ◌∷◌, ℕ, ◌%◌, ◌≤◌, ◌<◌, length}
use Rattle.scope.specs.declared.Verdict.{Verdict}
use Rattle.scope.specs.Verdict.{verdict_of}
use Rattle.walk.specs.declared.Rivals.{Rivals}
use Rattle.walk.specs.Rivals.{standing, nobody}

-- the runner-up stands behind the first, and is an entry of the catalogue
pub record Judgeable (stars : List ℕ) (r : Rivals) : Type 0 where
  pub order : r.first.0 ≤ r.other.0
  pub entry : (r.other.0 ≡ nobody → ⊥) → r.other.0 % 65536 < length stars

-- x is the standing of entry i
pub record Its (dist : ℕ → ℕ) (x i : ℕ) : Type 0 where
  pub is : x ≡ standing dist i
  pub few : i < 65536
  pub somebody : x < nobody

-- r holds the first and the runner-up of a list, or nobody
abbrev pub Stand : (star dist : ℕ → ℕ) → Rivals → List ℕ → Type 0
Stand star dist r [] = r.first.0 ≡ nobody
Stand star dist r (a ∷ []) = Its dist r.first.0 a × (star a ≡ r.star) × (r.other.0 ≡ nobody)
Stand star dist r (a ∷ b ∷ l) = Its dist r.first.0 a × (star a ≡ r.star) × Its dist r.other.0 b

-- v is the verdict on every such list
abbrev pub Says : (star : ℕ → ℕ) (t g : ℕ) → Rivals → Verdict → Type 0
Says star t g r v = (dist : ℕ → ℕ) (l : List ℕ) → Stand star dist r l → v ≡ verdict_of star dist t g l
