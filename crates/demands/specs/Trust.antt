-- Calls that none of refusals 1 to 5 fits, and tables that may be trusted. Assumes nothing.
use Rattle.std.specs.Prelude.{◌≡◌, Bool, false, List, [], ◌∷◌, ◌++◌, ℕ, Ok, true}
use Rattle.theory.specs.Lists.{any}
use Rattle.scope.specs.declared.Refusal.{Refusal}
use Rattle.scope.specs.Tables.{Index, index}
use Rattle.scope.specs.Walk.{Question}
use Rattle.scope.specs.Search.{K}
use Rattle.scope.specs.Refusals.{Rows, few_places}
use Rattle.scope.specs.Calls.{Asked, room, handed, build_end, check_answer}

-- none of these refusals fits
abbrev pub NoneFits : Rows → Type 0
NoneFits rows = any (λ (row : Bool × Refusal). row.0) rows ≡ false

-- the tables are such as our builder wrote, or our check passed, for the same codes, w and m; star numbers play no part and may have been others
pub data Trusted (x : Index) : Type 0 where
  written : (stars starts ids : List ℕ) → (build_end (index x.shape stars x.codes starts ids)).answer ≡ Ok tt
      → x.starts ≡ (build_end (index x.shape stars x.codes starts ids)).starts
      → x.ids ≡ (build_end (index x.shape stars x.codes starts ids)).ids → Trusted x
  passed : (stars : List ℕ) → check_answer (index x.shape stars x.codes x.starts x.ids) ≡ Ok true → Trusted x

-- a call that none of refusals 1 to 5 fits, with such tables: within r, for the k nearest, and for a verdict
pub record WithinCall (c : Asked) (r : ℕ) : Type 0 where
  pub taken : NoneFits (handed c.question (r ∷ []) c.marks)
  pub trusted : Trusted c.question.index

pub record NearestCall (c : Asked) (k : ℕ) : Type 0 where
  pub taken : NoneFits (handed c.question [] c.marks ++ few_places (K c.question.index k) (room c))
  pub trusted : Trusted c.question.index

pub record VerdictCall (ask : Question) (marks : List ℕ) (t g : ℕ) : Type 0 where
  pub taken : NoneFits (handed ask (t ∷ g ∷ []) marks)
  pub trusted : Trusted ask.index
