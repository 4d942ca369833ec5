-- What a walk leaves to be listed, and the places for it. Assumes nothing.
use Rattle.std.specs.Prelude.{◌≡◌, Result, Ok, Err, true, ◌&&◌, List, [], ℕ, ◌≤◌, ◌<◌, eqb, length, get_or}
use Rattle.theory.specs.Lists.{count}
use Rattle.scope.specs.declared.Refusal.{Refusal}
use Rattle.scope.specs.Tables.{Index, n}
use Rattle.scope.specs.Walk.{Question, distance_of}
use Rattle.scope.specs.Search.{answers}
use Rattle.scope.specs.Refusals.{mark_words}
use Rattle.codes.specs.Marks.{is_marked}
use Rattle.walk.specs.declared.Walk.{Walk}

-- the marks are entries', and the tally has how many of them are at each distance up to the limit
pub record Listable (ask : Question) (w : Walk) (marks tally : List ℕ) : Type 0 where
  pub long : length marks ≡ mark_words (n ask.index)
  pub whole : length tally ≡ 257
  pub theirs : (i : ℕ) → is_marked marks i ≡ true → i < n ask.index
  pub inside : w.seen.limit ≤ 256
  pub each : (d : ℕ) → d ≤ w.seen.limit → get_or tally d 0 ≡ count (λ i. eqb (distance_of ask i) d && is_marked marks i) (n ask.index)

-- the marked entries within the walk's limit, in the order of answers; none where the walk met a bad bucket
abbrev pub listed : Question → Result Walk Refusal → List ℕ → List ℕ
listed ask (Ok w) marks = answers ask (is_marked marks) w.seen.limit
listed ask (Err f) marks = []

-- the lists of a search are just what it fills: the marks of all entries, and P places for answers
pub record Cut (x : Index) (P : ℕ) (marks entries distances : List ℕ) : Type 0 where
  pub marked : length marks ≡ mark_words (n x)
  pub listed : length entries ≡ P
  pub measured : length distances ≡ P
