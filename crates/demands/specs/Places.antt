-- Which numbers in the tables a search depends on. Assumes nothing.
use Rattle.std.specs.Prelude.{◌≡◌, true, cond, List, [], ◌∷◌, ℕ, length, get_or}
use Rattle.theory.specs.Lists.{any}
use Rattle.scope.specs.Tables.{Index, index, bad, owns_start, owns_id}
use Rattle.scope.specs.Walk.{Question, masked}
use Rattle.scope.specs.Calls.{Asked, asked}

-- of these buckets in order, those that a walk opens: up to and with the first bad one
unfoldable pub reached : Index → List (ℕ × ℕ) → List (ℕ × ℕ)
reached x [] = []
reached x (b ∷ l) = b ∷ cond (bad x b.0 b.1) [] (reached x l)

-- other tables under the same catalogue, and the same call with them
abbrev pub retabled : Index → List ℕ → List ℕ → Index
retabled x starts ids = index x.shape x.stars x.codes starts ids

abbrev pub reasked : Question → List ℕ → List ℕ → Question
reasked ask starts ids = masked (retabled ask.index starts ids) ask.query ask.mask

abbrev pub recalled : Asked → List ℕ → List ℕ → Asked
recalled c starts ids = asked (reasked c.question starts ids) c.marks c.entries c.distances

-- the other tables are as long, and agree on every place that one of these buckets owns
pub record Agree (x : Index) (l : List (ℕ × ℕ)) (starts ids : List ℕ) : Type 0 where
  pub long_starts : length starts ≡ length x.starts
  pub long_ids : length ids ≡ length x.ids
  pub owned_starts : (j : ℕ) → any (λ b. owns_start x b.0 b.1 j) l ≡ true → get_or starts j 0 ≡ get_or x.starts j 0
  pub owned_ids : (j : ℕ) → any (λ b. owns_id x b.0 b.1 j) l ≡ true → get_or ids j 0 ≡ get_or x.ids j 0
