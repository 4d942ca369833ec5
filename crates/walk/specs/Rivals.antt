-- The nearest of the entries that a walk has tested, and its runner-up, the nearest with another star. Assumes nothing.
use Rattle.std.specs.Prelude.{◌≡◌, ◌⊎◌, Bool, true, ◌||◌, ℕ, ◌+◌, ◌*◌, ◌≤◌, eqb}
use Rattle.walk.specs.declared.Rivals.{Rivals}

-- an entry's standing in 01's order, as one number: smaller distance first, then smaller entry number
abbrev pub standing : (ℕ → ℕ) → ℕ → ℕ
standing distance i = 65536 * distance i + i

-- above every standing: 257 · 65,536
abbrev pub nobody : ℕ
nobody = 16842752

-- of the entries that pass the test, `first` is the least standing and `star` that entry's star, `other` the least standing of one with another star; or nobody's
pub record Best (star standing : ℕ → ℕ) (test : ℕ → Bool) (r : Rivals) : Type 0 where
  pub order : (r.first.0 ≤ r.other.0) × (r.other.0 ≤ nobody)
  pub first : (i : ℕ) → test i ≡ true → r.first.0 ≤ standing i
  pub whose : (r.first.0 ≡ nobody) ⊎ ((i : ℕ) × (test i ≡ true) × (r.first.0 ≡ standing i) × (star i ≡ r.star))
  pub other : (i : ℕ) → test i ≡ true → (star i ≡ r.star → ⊥) → r.other.0 ≤ standing i
  pub another : (r.other.0 ≡ nobody) ⊎ ((i : ℕ) × (test i ≡ true) × (r.other.0 ≡ standing i) × (star i ≡ r.star → ⊥))

-- from r to o entry i, of standing x, has come in
abbrev pub Joins : (star : ℕ → ℕ) (i x : ℕ) → Rivals → Rivals → Type 0
Joins star i x r o = (standing : ℕ → ℕ) (test test' : ℕ → Bool) → standing i ≡ x → ((j : ℕ) → test' j ≡ (test j || eqb j i))
    → Best star standing test r → Best star standing test' o
