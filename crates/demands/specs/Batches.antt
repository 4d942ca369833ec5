-- Where a query's part of a batch stands, and a batch over tables that may be trusted. Assumes nothing.
use Rattle.std.specs.Prelude.{List, ℕ, ◌*◌, take, drop}
use Rattle.scope.specs.declared.Answer.{Answer}
use Rattle.scope.specs.Walk.{Question, question, distance_of, star_of}
use Rattle.scope.specs.Batch.{Handed, batch, batch_rows, query_of, BatchEnd}
use Rattle.demands.specs.Trust.{NoneFits, Trusted}

-- query i's four numbers, and its k records
abbrev pub outcome_part : BatchEnd → ℕ → List ℕ
outcome_part e i = take 4 (drop (4 * i) e.outcomes)

abbrev pub records_part : BatchEnd → ℕ → ℕ → List Answer
records_part e k i = take k (drop (k * i) e.records)

-- what is asked with query i
abbrev pub question_of : Handed → ℕ → Question
question_of c i = question c.index (query_of c i)

-- entry j as an answer
abbrev pub answer_of : Question → ℕ → Answer
answer_of ask j = record { entry = j; star = star_of ask j; distance = distance_of ask j }

-- the same batch with other queries
abbrev pub with_queries : Handed → List ℕ → Handed
with_queries c queries = batch c.index queries c.k c.marks c.outcomes c.places

-- a batch that none of the refusals fits, with such tables
pub record BatchCall (c : Handed) : Type 0 where
  pub taken : NoneFits (batch_rows c)
  pub trusted : Trusted c.index
