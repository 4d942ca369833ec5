-- L3, the batch: each query's part equals any single call with that query; over trusted tables it holds demand 2's answers; another query changes no other part. Assumes nothing.
use Rattle.std.specs.Prelude.{Ok}
use mathlib.Core.Path.{◌≡◌, refl, sym, ap, ◌∙◌}
use mathlib.Core.Logic.{⊎_elim}
use mathlib.Core.Bool.{Bool, true, false, cond}
use mathlib.Core.List.{List, [], ◌∷◌}
use Prim.Native.Nat.{ℕ, min, ◌*◌, ◌≤◌, ◌<◌}
use native.Mathlib.Omega.{arith}
use lib.Dec.{ltb}
use lib.ListN.{length, get_or, take}
use lib.Seq.{get_or-take}
use borrow.Author.Tests.{eq-eqb, le-ltb, ltb-true}
use Rattle.theory.specs.Lists.{cat, tab, padded, any}
use Rattle.theory.proofs.Lists.{take-over, length-tab, tab_cong, length-padded, get_d_map}
use Rattle.theory.proofs.Parts.{length-parts, read_part}
use Rattle.theory.proofs.Tests.{either}
use Rattle.scope.specs.declared.Answer.{Answer}
use Rattle.scope.specs.Codes.{code_of}
use Rattle.scope.specs.Shape.{m, starts_before}
use Rattle.scope.specs.Tables.{n}
use Rattle.scope.specs.Walk.{Question, all_ones, distance_of}
use Rattle.scope.specs.Search.{K}
use Rattle.scope.specs.Refusals.{Rows, refusal, unless, mark_words}
use Rattle.scope.specs.Calls.{asked, SearchEnd, nearest_end}
use Rattle.scope.specs.Batch.{Handed, queries_in, batch_rows, batch_number, query_of, single_of, single, outcome_of, answers_of, zero_record, record_from, record_of, batch_outcomes, batch_records, BatchEnd, batch_end}
use Rattle.scope.proofs.Masks.{all_ones-long}
use Rattle.scope.proofs.Rows.{one_fits}
use Rattle.scope.proofs.Single.{call_is, record-over}
use Rattle.scope.proofs.Batch.{Clear, clear, clear_zero, end_clear, end_refused, query_long, four_long}
use Rattle.demands.specs.Neighbours.{every_entry}
use Rattle.demands.specs.Answers.{Exactly, Lists}
use Rattle.demands.specs.Trust.{NearestCall}
use Rattle.demands.specs.Batches.{outcome_part, records_part, question_of, answer_of, with_queries, BatchCall}
use Rattle.demands.proofs.Listing.{every_exactly}
use Rattle.demands.proofs.Nearest.{length-first, nearest-lists}

-- ---- where nothing is refused, part i is that of the single call with lists of its own

module _ (c : Handed) (records : List Answer) (h : Clear c) (i : ℕ) (b : i < queries_in c) where
  own-outcome : outcome_part (batch_end c records) i ≡ outcome_of (single_of c i).answer
  unfolding batch_outcomes
  own-outcome =
      let f : ℕ → List ℕ = λ j. outcome_of (single_of c j).answer in
      let long : length (cat f i) ≡ i * 4 = length-parts f 4 i (λ z _. four_long (single_of c z).answer) in
      ap (λ (e : BatchEnd). outcome_part e i) (end_clear c h records)
      ∙ read_part f _ i (queries_in c) (4 * i) 4 b (take-over (cat f (queries_in c)) c.outcomes _ refl) (omega arith) (four_long (single_of c i).answer)

  own_records : records_part (batch_end c records) c.k i ≡ tab (record_of c.index.stars (single_of c i)) c.k
  unfolding batch_records
  own_records =
      let f : ℕ → List Answer = λ j. tab (record_of c.index.stars (single_of c j)) c.k in
      let long : length (cat f i) ≡ i * c.k = length-parts f c.k i (λ z _. length-tab _ c.k) in
      ap (λ (e : BatchEnd). records_part e c.k i) (end_clear c h records)
      ∙ read_part f _ i (queries_in c) (c.k * i) c.k b (take-over (cat f (queries_in c)) records _ refl) (omega arith) (length-tab _ c.k)

-- ---- EACH QUERY'S PART EQUALS A SINGLE CALL WITH THAT QUERY, whatever lists of enough places are lent to it

module _ (c : Handed) (records : List Answer) (zero : batch_number c ≡ 0) (i : ℕ) (b : i < queries_in c)
    (marks entries distances : List ℕ) (hm : mark_words (n c.index) ≤ length marks) (he : K c.index c.k ≤ length entries) (hd : K c.index c.k ≤ length distances) where
  abbrev call : SearchEnd
  call = nearest_end (asked (question_of c i) marks entries distances) c.k

  pub batch-outcome : outcome_part (batch_end c records) i ≡ outcome_of call.answer
  batch-outcome =
      let h = clear_zero c zero in
      own-outcome c records h i b ∙ sym (ap (λ (e : SearchEnd). outcome_of e.answer) (call_is c.index (query_of c i) c.k h.fits (query_long c i b) marks entries distances hm he hd))

  pub batch_records_lem : records_part (batch_end c records) c.k i ≡ tab (record_of c.index.stars call) c.k
  batch_records_lem =
      let h = clear_zero c zero in
      let is = call_is c.index (query_of c i) c.k h.fits (query_long c i b) marks entries distances hm he hd in
      own_records c records h i b ∙ sym (tab_cong (record_of c.index.stars call) (record_of c.index.stars (single_of c i)) c.k
      (λ p _. ap (λ (e : SearchEnd). record_of c.index.stars e p) is ∙ record-over c.index (query_of c i) c.k h.fits (query_long c i b) entries distances p))

-- ---- over trusted tables

module _ (c : Handed) (such : BatchCall c) (i : ℕ) (b : i < queries_in c) where
  -- a single call with query i is one that demands 2 and 3 speak of
  pub batch-call : (marks entries distances : List ℕ) → mark_words (n c.index) ≤ length marks → K c.index c.k ≤ length entries → K c.index c.k ≤ length distances
      → NearestCall (asked (question_of c i) marks entries distances) c.k
  unfolding any
  batch-call marks entries distances hm he hd =
      let h = clear c such.taken in
      let x = c.index in
      let f = h.fits in
      record {
        taken = rw (
          f.shape,
          le-ltb 65536 (n x) f.few,
          eq-eqb (length x.codes) (n x * x.shape.w) f.whole,
          le-ltb (length x.starts) (starts_before x.shape (m x.shape)) f.starts,
          le-ltb (length x.ids) (m x.shape * n x) f.ids,
          eq-eqb (length (query_of c i)) x.shape.w (query_long c i b),
          eq-eqb (length (all_ones x.shape.w)) x.shape.w (all_ones-long x.shape.w),
          le-ltb (length marks) (mark_words (n x)) hm,
          le-ltb (min (length entries) (length distances)) (K x c.k) (omega arith),
        );
        trusted = such.trusted;
      }

  abbrev ask : Question
  ask = question_of c i

  abbrev l : List ℕ
  l = every_entry ask

  abbrev most : ℕ
  most = K c.index c.k

  abbrev own : List ℕ
  own = padded most []

  found_in : Lists (asked ask (padded (mark_words (n c.index)) []) own own) (single_of c i) (take most l)
  unfolding single
  found_in =
      let m = length-padded (mark_words (n c.index)) [] in
      let e = length-padded most [] in
      nearest-lists (asked ask (padded (mark_words (n c.index)) []) own own) c.k (batch-call (padded (mark_words (n c.index)) []) own own (omega arith) (omega arith) (omega arith))

  listed : (single_of c i).answer ≡ Ok found_in.report
  listed = found_in.listed

  answered : answers_of (single_of c i).answer ≡ most
  answered = ap answers_of listed ∙ found_in.answers ∙ length-first ask c.k

  first_at : (p : ℕ) → p < most → get_or (take most l) p 0 ≡ get_or l p 0
  first_at p b = get_or-take most l p 0 b

  entry_at : (p : ℕ) → p < most → get_or (single_of c i).entries p 0 ≡ get_or l p 0
  entry_at p b =
      let full = length-first ask c.k in
      sym (get_or-take (length (take most l)) (single_of c i).entries p 0 (omega arith)) ∙ ap (λ (z : List ℕ). get_or z p 0) found_in.entries ∙ first_at p b

  distance_at : (p : ℕ) → p < most → get_or (single_of c i).distances p 0 ≡ distance_of ask (get_or l p 0)
  distance_at p b =
      let full = length-first ask c.k in
      sym (get_or-take (length (take most l)) (single_of c i).distances p 0 (omega arith)) ∙ ap (λ (z : List ℕ). get_or z p 0) found_in.distances
      ∙ get_d_map (distance_of ask) 0 0 (take most l) p (omega arith) ∙ ap (distance_of ask) (first_at p b)

  same : (p : ℕ) (t : Bool) → ltb p most ≡ t
      → cond t (record { entry = get_or (single_of c i).entries p 0; star = get_or c.index.stars (get_or (single_of c i).entries p 0) 0; distance = get_or (single_of c i).distances p 0 }) zero_record
      ≡ cond t (answer_of ask (get_or l p 0)) zero_record
  same p true y =
      let b = ltb-true p most y in
      λ j. record { entry = entry_at p b j; star = get_or c.index.stars (entry_at p b j) 0; distance = distance_at p b j }
  same p false y = refl

  -- DEMAND 2 for each query: no refusal, K answers, and the records hold the first K of all entries in order of distance and then of entry number, then zeros
  pub batch_demand_2 : (records : List Answer) → (l : List ℕ) × Exactly (question_of c i) (λ _. true) l
      × (take 2 (outcome_part (batch_end c records) i) ≡ 0 ∷ K c.index c.k ∷ [])
      × (records_part (batch_end c records) c.k i ≡ tab (λ p. cond (ltb p (K c.index c.k)) (answer_of (question_of c i) (get_or l p 0)) zero_record) c.k)
  batch_demand_2 records =
      let h = clear c such.taken in (
        l,
        every_exactly ask,
        ap (take 2) (own-outcome c records h i b ∙ ap outcome_of listed) ∙ ap (λ (a : ℕ). 0 ∷ a ∷ []) (found_in.answers ∙ length-first ask c.k),
        own_records c records h i b ∙ tab_cong (record_of c.index.stars (single_of c i)) _ c.k (λ p _. ap (λ (a : ℕ). record_from c.index.stars a (single_of c i).entries (single_of c i).distances p) answered ∙ same p (ltb p most) refl),
      )

-- ---- ANOTHER QUERY CHANGES NO OTHER PART: with other queries, as many words, the number is the same, and a query that is the same has the same part

module _ (c : Handed) (queries : List ℕ) (long : length queries ≡ length c.queries) where
  rows_same : batch_rows (with_queries c queries) ≡ batch_rows c
  rows_same = rw long

  pub batch-others : (batch_number (with_queries c queries) ≡ batch_number c)
      × ((records : List Answer) (i : ℕ) → i < queries_in c → code_of c.index.shape.w queries i ≡ query_of c i
      → (outcome_part (batch_end (with_queries c queries) records) i ≡ outcome_part (batch_end c records) i)
      × (records_part (batch_end (with_queries c queries) records) c.k i ≡ records_part (batch_end c records) c.k i))
  unfolding batch_number
  batch-others = (
    ap (λ (r : Rows). unless r (λ f. (refusal f).0) 0) rows_same,
    (λ records i b e.
        ⊎_elim
        (λ (h : one_fits (batch_rows c) ≡ true).
        let there = end_refused (with_queries c queries) (ap one_fits rows_same ∙ h) records in
        let here = end_refused c h records in
        (ap (λ (z : BatchEnd). outcome_part z i) there ∙ sym (ap (λ (z : BatchEnd). outcome_part z i) here), ap (λ (z : BatchEnd). records_part z c.k i) there ∙ sym (ap (λ (z : BatchEnd). records_part z c.k i) here)))
        (λ (h : one_fits (batch_rows c) ≡ false).
        let there = clear (with_queries c queries) (ap one_fits rows_same ∙ h) in
        let few : i < queries_in (with_queries c queries) = rw long b in (
          own-outcome (with_queries c queries) records there i few ∙ ap (λ (z : List ℕ). outcome_of (single c.index z c.k).answer) e ∙ sym (own-outcome c records (clear c h) i b),
          own_records (with_queries c queries) records there i few ∙ ap (λ (z : List ℕ). tab (record_of c.index.stars (single c.index z c.k)) c.k) e ∙ sym (own_records c records (clear c h) i b),
        ))
        (either (one_fits (batch_rows c)))),
  )
