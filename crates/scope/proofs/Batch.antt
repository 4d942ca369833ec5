-- A batch by whether it is refused, and where each query's part stands. Assumes nothing.
use Rattle.std.specs.Prelude.{Result, Ok, Err}
use Rattle.scope.specs.declared.Report.{Report}
use mathlib.Core.Path.{◌≡◌, refl, sym, ap, ◌∙◌}
use mathlib.Core.Logic.{⊎_elim}
use mathlib.Core.Bool.{Bool, true, false, not}
use mathlib.Core.List.{List, [], ◌++◌}
use Prim.Native.Nat.{ℕ, ◌+◌, ◌*◌, ◌%◌, ◌≤◌, ◌<◌}
use native.Mathlib.Omega.{arith}
use native.Mathlib.Nat.{div-add-mod'}
use lib.Dec.{eqb, ltb}
use lib.ListN.{length}
use borrow.Author.Tests.{eqb-true, ltb-false, not-false}
use Rattle.theory.specs.Lists.{any, over, padded}
use Rattle.theory.proofs.Lists.{any_append}
use Rattle.theory.proofs.Tests.{either, both_ways, or-false_left, or-false_right}
use Rattle.theory.proofs.Parts.{in_parts, part_long}
use Rattle.scope.specs.declared.Refusal.{Refusal}
use Rattle.scope.specs.declared.Answer.{Answer}
use Rattle.scope.specs.Codes.{code_of}
use Rattle.scope.specs.Tables.{n}
use Rattle.scope.specs.Refusals.{refusal, one_to_three, few_marks, mark_words, changes, lent}
use Rattle.scope.specs.Batch.{Handed, queries_in, not_whole, too_large, batch_rows, batch_number, query_of, outcome_of, batch_outcomes, batch_records, fills, batch_end}
use Rattle.scope.proofs.Rows.{one_fits, first_fits, unless-none, unless_one, first-not, numbered, Fits, fits, lent-all}

-- none of the refusals fits
pub record Clear (c : Handed) : Type 0 where
  pub none : one_fits (batch_rows c) ≡ false
  pub fits : Fits c.index
  pub whole : length c.queries % c.index.shape.w ≡ 0
  pub marked : mark_words (n c.index) ≤ length c.marks
  pub few : queries_in c ≤ 256
  pub room : queries_in c * c.k ≤ c.places
  pub told : 4 * queries_in c ≤ length c.outcomes
  pub number : batch_number c ≡ 0

pub clear : (c : Handed) → one_fits (batch_rows c) ≡ false → Clear c
unfolding any batch_number
clear c h =
    let x = c.index in
    let both = sym (any_append (λ (row : Bool × Refusal). row.0) (one_to_three x) (not_whole x.shape c.queries ++ few_marks x c.marks ++ too_large c)) ∙ h in
    let four = or-false_right (one_fits (one_to_three x)) _ both in
    let five = or-false_right (not (eqb (length c.queries % x.shape.w) 0)) _ four in
    let eleven = or-false_right (ltb (length c.marks) (mark_words (n x))) _ five in
    let records = or-false_right (ltb 256 (queries_in c)) _ eleven in
    let outcomes = or-false_right (ltb c.places (queries_in c * c.k)) _ records in
    record {
      none = h;
      fits = fits x (or-false_left (one_fits (one_to_three x)) _ both);
      whole = eqb-true _ _ (not-false (eqb (length c.queries % x.shape.w) 0) (or-false_left _ _ four));
      marked = ltb-false _ _ (or-false_left _ _ five);
      few = ltb-false _ _ (or-false_left _ _ eleven);
      room = ltb-false _ _ (or-false_left _ _ records);
      told = ltb-false _ _ (or-false_left _ _ outcomes);
      number = unless-none (batch_rows c) (λ f. (refusal f).0) 0 h;
    }

module _ (c : Handed) where
  module _ (h : one_fits (batch_rows c) ≡ true) where
    pub refused-number : eqb (batch_number c) 0 ≡ false
    unfolding batch_number
    refused-number = ap (λ (z : ℕ). eqb z 0) (unless_one (batch_rows c) (λ f. (refusal f).0) 0 h) ∙ numbered (first_fits (batch_rows c))

    refused_keeps : changes (batch_number c) ≡ false
    unfolding batch_number any
    refused_keeps = ap changes (unless_one (batch_rows c) (λ f. (refusal f).0) 0 h) ∙ first-not (λ f. changes (refusal f).0) (batch_rows c) refl h

    pub end_refused : (records : List Answer) → batch_end c records ≡ fills (batch_number c) c.marks c.outcomes records
    unfolding batch_end lent
    end_refused records = rw refused_keeps

  pub end_clear : Clear c → (records : List Answer)
      → batch_end c records ≡ fills 0 (over (padded (mark_words (n c.index)) []) c.marks) (over (batch_outcomes c) c.outcomes) (over (batch_records c) records)
  unfolding batch_end lent
  end_clear h records = rw h.number (λ i. fills 0 (over (padded (mark_words (n c.index)) []) c.marks) (lent-all (batch_outcomes c) c.outcomes i) (over (batch_records c) records))

  pub clear_zero : batch_number c ≡ 0 → Clear c
  clear_zero e = ⊎_elim (λ h. both_ways (sym (ap (λ (z : ℕ). eqb z 0) e) ∙ refused-number h)) (λ h. clear c h) (either (one_fits (batch_rows c)))

  -- the words of query i are there
  pub query_inside : (i : ℕ) → i < queries_in c → i * c.index.shape.w + c.index.shape.w ≤ length c.queries
  query_inside i h =
      let w = c.index.shape.w in
      let a = in_parts i (queries_in c) w h in
      let b = div-add-mod' (length c.queries) w in
      omega arith

  pub query_long : (i : ℕ) → i < queries_in c → length (query_of c i) ≡ c.index.shape.w
  unfolding code_of
  query_long i h = part_long (i * c.index.shape.w) c.index.shape.w c.queries (query_inside i h)

pub four_long : (r : Result Report Refusal) → length (outcome_of r) ≡ 4
four_long (Ok r) = refl
four_long (Err f) = refl
