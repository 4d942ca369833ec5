-- What one query's part of a batch asks, and what all of them leave in the scratch lists. Assumes nothing.
use Rattle.std.specs.Prelude.{◌≡◌, cond, List, ℕ, min, ◌-◌, ◌*◌, ◌≤◌, ◌<◌, eqb, length, get_or}
use Rattle.theory.specs.Lists.{over}
use Rattle.scope.specs.declared.Answer.{Answer}
use Rattle.scope.specs.Tables.{Index, n}
use Rattle.scope.specs.Search.{K}
use Rattle.scope.specs.Refusals.{mark_words}
use Rattle.scope.specs.Calls.{SearchEnd}
use Rattle.scope.specs.Batch.{Handed, queries_in, batch_number, single_of, BatchEnd, batch_end}
use Rattle.shapes.specs.Lent.{Lent}

-- ---- one query

-- the scratch lists begin with so many answers, each an entry
pub record Listed (stars : List ℕ) (answers : ℕ) (entries distances : List ℕ) : Type 0 where
  pub near : answers ≤ length entries
  pub far : answers ≤ length distances
  pub known : (p : ℕ) → p < answers → get_or entries p 0 < length stars

-- none of refusals 1 to 5 fits, and the lists are long enough
pub record Asks (x : Index) (query : List ℕ) (k : ℕ) (marks outcome entries distances : List ℕ) : Type 0 where
  pub lent : Lent x
  pub long : length query ≡ x.shape.w
  pub marked : mark_words (n x) ≤ length marks
  pub told : length outcome ≡ 4
  pub near : K x k ≤ length entries
  pub far : K x k ≤ length distances

-- ---- all queries

-- the scratch lists hold as many answers as a query can have
pub record Scratch (k : ℕ) (entries distances : List ℕ) : Type 0 where
  pub near : min k 65536 ≤ length entries
  pub far : min k 65536 ≤ length distances

-- how many places are written
unfoldable pub total : Handed → ℕ
total c = cond (eqb (batch_number c) 0) (queries_in c * c.k) 0

-- a scratch list begins with the last query's
unfoldable pub last_held : Handed → (SearchEnd → List ℕ) → List ℕ → List ℕ
last_held c part old = cond (eqb (total c) 0) old (over (part (single_of c (queries_in c - 1))) old)

abbrev pub fill_end : Handed → List ℕ → List ℕ → List Answer → BatchEnd × List ℕ × List ℕ
fill_end c entries distances records = (batch_end c records, last_held c (λ e. e.entries) entries, last_held c (λ e. e.distances) distances)
