-- 02, L3: one call takes up to 256 queries and a k, and fills a lent list of answer records and a second list of outcomes. Assumes nothing.
use Rattle.std.specs.Prelude.{not, cond, List, [], ◌∷◌, ◌++◌, ℕ, ◌*◌, ◌/◌, ◌%◌, eqb, ltb, length, get_or, Result, Ok, Err}
use Rattle.scope.specs.declared.Report.{Report}
use Rattle.scope.specs.declared.Refusal.{Refusal}
use Rattle.theory.specs.Lists.{cat, tab, over, padded}
use Rattle.scope.specs.declared.Shape.{Shape}
use Rattle.scope.specs.declared.Refusal.TheVariants.{Query, Batch}
use Rattle.scope.specs.declared.Answer.{Answer}
use Rattle.scope.specs.Codes.{code_of}
use Rattle.scope.specs.Tables.{Index, n}
use Rattle.scope.specs.Walk.{question}
use Rattle.scope.specs.Search.{K}
use Rattle.scope.specs.Refusals.{Rows, refusal, one_to_three, mark_words, few_marks, unless, changes, lent}
use Rattle.scope.specs.Calls.{asked, SearchEnd, nearest_end}

-- everything that the call is handed; of the records it is handed the number of places
pub record Handed : Type 0 where
  pub index : Index
  pub queries : List ℕ
  pub k : ℕ
  pub marks : List ℕ
  pub outcomes : List ℕ
  pub places : ℕ

abbrev pub batch : Index → List ℕ → ℕ → List ℕ → List ℕ → ℕ → Handed
batch x queries k marks outcomes places = record { index = x; queries = queries; k = k; marks = marks; outcomes = outcomes; places = places }

-- how many queries there are
abbrev pub queries_in : Handed → ℕ
queries_in c = length c.queries / c.index.shape.w

-- ---- refusals: 1, 2, 3, 4, 5, where 5's rule for answer lists does not apply, then 11

-- 4: a query list not a whole number of codes
abbrev pub not_whole : Shape → List ℕ → Rows
not_whole sh queries = (not (eqb (length queries % sh.w) 0), Query) ∷ []

-- 11: more than 256 queries, or either result list shorter than needed: k records and four numbers for each query
abbrev pub too_large : Handed → Rows
too_large c =
    (ltb 256 (queries_in c), Batch) ∷ (ltb c.places (queries_in c * c.k), Batch) ∷ (ltb (length c.outcomes) (4 * queries_in c), Batch) ∷ []

abbrev pub batch_rows : Handed → Rows
batch_rows c = one_to_three c.index ++ not_whole c.index.shape c.queries ++ few_marks c.index c.marks ++ too_large c

-- the refusal's number, 0 if there is none
unfoldable pub batch_number : Handed → ℕ
batch_number c = unless (batch_rows c) (λ f. (refusal f).0) 0

-- ---- each query's part equals a single call with that query

-- a single call, with lists of its own
unfoldable pub single : Index → List ℕ → ℕ → SearchEnd
single x query k =
    let own = padded (K x k) [] in
    nearest_end (asked (question x query) (padded (mark_words (n x)) []) own own) k

-- query i, and the single call with it
abbrev pub query_of : Handed → ℕ → List ℕ
query_of c i = code_of c.index.shape.w c.queries i

abbrev pub single_of : Handed → ℕ → SearchEnd
single_of c i = single c.index (query_of c i) c.k

-- its refusal (0 if none), number of answers and counts; a query refused 7 has all zeros but the 7
abbrev pub outcome_of : Result Report Refusal → List ℕ
outcome_of (Ok r) = 0 ∷ r.answers ∷ r.opened.0 ∷ r.tested.0 ∷ []
outcome_of (Err f) = (refusal f).0 ∷ 0 ∷ 0 ∷ 0 ∷ []

abbrev pub answers_of : Result Report Refusal → ℕ
answers_of r = get_or (outcome_of r) 1 0

-- answer p, each with entry, star and distance; unused places are zero records
abbrev pub zero_record : Answer
zero_record = record { entry = 0; star = 0; distance = 0 }

abbrev pub record_from : List ℕ → ℕ → List ℕ → List ℕ → ℕ → Answer
record_from stars answers entries distances p =
    cond (ltb p answers) (record { entry = get_or entries p 0; star = get_or stars (get_or entries p 0) 0; distance = get_or distances p 0 }) zero_record

abbrev pub record_of : List ℕ → SearchEnd → ℕ → Answer
record_of stars e = record_from stars (answers_of e.answer) e.entries e.distances

-- four numbers for each query in turn, and k records for each query in turn
unfoldable pub batch_outcomes : Handed → List ℕ
batch_outcomes c = cat (λ i. outcome_of (single_of c i).answer) (queries_in c)

unfoldable pub batch_records : Handed → List Answer
batch_records c = cat (λ i. tab (record_of c.index.stars (single_of c i)) c.k) (queries_in c)

-- ---- the refusal's number, and the three lists at the end

pub record BatchEnd : Type 0 where
  pub number : ℕ
  pub marks : List ℕ
  pub outcomes : List ℕ
  pub records : List Answer

abbrev pub fills : ℕ → List ℕ → List ℕ → List Answer → BatchEnd
fills number marks outcomes records = record { number = number; marks = marks; outcomes = outcomes; records = records }

-- a refusal changes no list
unfoldable pub batch_end : Handed → List Answer → BatchEnd
batch_end c records =
    let number = batch_number c in
    fills number
    (lent number (mark_words (n c.index)) [] c.marks)
    (lent number (length (batch_outcomes c)) (batch_outcomes c) c.outcomes)
    (cond (changes number) (over (batch_records c) records) records)
