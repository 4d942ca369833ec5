-- What it means that a search lists exactly some entries in 01's order. Assumes nothing.
use Rattle.std.specs.Prelude.{◌≡◌, Bool, ◌&&◌, List, map, ℕ, eqb, ltb, length, take, Ok}
use Rattle.theory.specs.Lists.{count, any, has}
use Rattle.theory.specs.Order.{one_if, times, Sorted, Before}
use Rattle.scope.specs.declared.Report.{Report}
use Rattle.scope.specs.Tables.{n, bucket}
use Rattle.scope.specs.Walk.{Question, distance_of, opened}
use Rattle.scope.specs.Calls.{Asked, SearchEnd}

-- l holds exactly the entries that pass the test, each once, by distance and then by entry number
pub record Exactly (ask : Question) (test : ℕ → Bool) (l : List ℕ) : Type 0 where
  pub ordered : Sorted (Before (distance_of ask)) l
  pub once : (i : ℕ) → times (eqb i) l ≡ one_if (ltb i (n ask.index) && test i)

-- a call that ends so lists l: it reports as many answers, and the first places of its two answer lists hold l and l's distances
pub record Lists (c : Asked) (end : SearchEnd) (l : List ℕ) : Type 0 where
  pub report : Report
  pub listed : end.answer ≡ Ok report
  pub answers : report.answers ≡ length l
  pub entries : take (length l) end.entries ≡ l
  pub distances : take (length l) end.distances ≡ map (distance_of c.question) l

-- the two counts that are reported after N steps
pub record Reported (ask : Question) (N : ℕ) (rep : Report) : Type 0 where
  -- the buckets opened
  pub buckets : rep.opened.0 ≡ length (opened ask N)
  -- the entries that one of them lists
  pub entries : rep.tested.0 ≡ count (λ i. any (λ b. has i (bucket ask.index b.0 b.1)) (opened ask N)) (n ask.index)
