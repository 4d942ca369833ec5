use mathlib.Core.Path.{◌≡◌, sym, ap, ◌∙◌}
use Rattle.std.specs.Prelude.{Ok}
use Prim.Native.Nat.{ℕ, ◌+◌, ◌-◌, ◌*◌, ◌/◌, ◌≤◌, ◌<◌}
use native.Mathlib.Nat.{div-add-mod'}
use native.Mathlib.Omega.{arith}
use lib.ListN.{length, take, drop}
use Rattle.theory.proofs.Parts.{in_parts, part_long}
use Rattle.scope.specs.Tables.{Index, n}
use Rattle.scope.specs.Refusals.{allowed}
use Rattle.scope.specs.Batch.{Handed, batch, batch_rows}
use Rattle.scope.proofs.Rows.{passed_on}
use Rattle.scope.proofs.Shapes.{facts}
use Rattle.batch.proofs.Refusing.{clear_fine}
use Rattle.batch.proofs.Going.{refused-end, start, query_in, query_is, none_asked-end, places, four, asks, next, finish}
use Rattle.batch.proofs.fill.Goals as goal
use Rattle.batch.proofs.fill.Goals.{Start}

abbrev H : Start → Handed
H s = batch s.args.index.now s.args.queries.now s.args.k s.args.marks.now s.args.outcomes.now (length s.args.records.now)

-- a field is the model's
abbrev n_of : Index → ℕ
n_of x = n x

abbrev w_of : Index → ℕ
w_of x = x.shape.w

-- query i's records, its four numbers and its words are there
module _ (s : Start) (fine : Ok tt ≡ allowed (batch_rows (H s))) {x : Index} (same : x ≡ s.args.index.now) {i : ℕ} (b : i < length s.args.queries.now / x.shape.w) where
  part_in : i * s.args.k + s.args.k ≤ length s.args.records.now
  part_in = places (H s) (clear_fine (H s) fine) i (query_in (H s) _ _ (ap w_of same) b)

  four_in : 4 * i + 4 ≤ length s.args.outcomes.now
  four_in = four (H s) (clear_fine (H s) fine) i (query_in (H s) _ _ (ap w_of same) b)

  -- so many words as a code has, from query i's first one or from before it
  words_in : (a : ℕ) → a ≤ i * x.shape.w → length (take (a + x.shape.w - a) (drop a s.args.queries.now)) ≡ s.args.index.now.shape.w
  words_in a l =
      let w = x.shape.w in
      let inside : i * w + w ≤ length s.args.queries.now = omega (arith, in_parts i (length s.args.queries.now / w) w b, div-add-mod' (length s.args.queries.now) w) in
      part_long a (a + w - a) s.args.queries.now (omega arith) ∙ omega (arith, ap w_of same)

pub returns-in_err-refused : goal.returns-in_err-refused
returns-in_err-refused c =
    rw (passed_on c.from_residual.ensures.1) (c.in_err-refused.ensures, refused-end _ _ _ _ _ c.in_err-refused.ensures)

pub clear-requires : goal.clear-requires
clear-requires c =
    let h = clear_fine _ c.in_ok-refused.ensures in
    let marked = h.marked in
    let same = ap n_of c.index.view_is in
    let words = c.div_ceil.ensures in
    omega arith

pub nonzero_div-count : goal.nonzero_div-count
nonzero_div-count c =
    let h = clear_fine _ c.in_ok-refused.ensures in
    rw (ap w_of c.index.view_is) (facts _ h.fits.shape).some_words

pub clear-requires-then-k-eq0 : goal.clear-requires-then-k-eq0
clear-requires-then-k-eq0 c =
    let h = clear_fine _ c.in_ok-refused.ensures in
    let told = h.told in
    rw (ap w_of c.index.view_is) (omega arith)

pub returns-then-k-eq0 : goal.returns-then-k-eq0
returns-then-k-eq0 c =
    let s : Start = search in
    let h = clear_fine (H s) c.in_ok-refused.ensures in
    let same = ap n_of c.index.view_is in
    let words = c.div_ceil.ensures in
    let told = rw (ap w_of c.index.view_is) at c.clear-then-k-eq0.ensures in
    (c.in_ok-refused.ensures, none_asked-end (H s) h c.if-k-eq0.true _ _ _ c.div_ceil.result (omega arith) c.clear.ensures told)

pub loop-i-init : goal.loop-i-init
loop-i-init c =
    let s : Start = search in
    let same = ap n_of c.index.view_is in
    let words = c.div_ceil.ensures in
    start (H s) _ _ _ _ c.div_ceil.result (omega arith) c.clear.ensures

-- a query's part lies in the records, so that where it begins and ends fits
pub slice_bounds-answer-end-in-loop-i-2 : goal.slice_bounds-answer-end-in-loop-i-2
slice_bounds-answer-end-in-loop-i-2 c = omega (arith, part_in (search) c.in_ok-refused.ensures c.index.view_is c.loop-i-test.true)

pub overflow_mul-place : goal.overflow_mul-place
overflow_mul-place c = omega (arith, part_in (search) c.in_ok-refused.ensures c.index.view_is c.loop-i-test.true)

pub slice_bounds-answer-end-in-loop-i : goal.slice_bounds-answer-end-in-loop-i
slice_bounds-answer-end-in-loop-i c = omega (arith, four_in (search) c.in_ok-refused.ensures c.index.view_is c.loop-i-test.true)

pub overflow_add-place : goal.overflow_add-place
overflow_add-place c = omega (arith, part_in (search) c.in_ok-refused.ensures c.index.view_is c.loop-i-test.true)

pub offset_bounds-records-place : goal.offset_bounds-records-place
offset_bounds-records-place c = omega (arith, part_in (search) c.in_ok-refused.ensures c.index.view_is c.loop-i-test.true)

pub answer-requires : goal.answer-requires
answer-requires c =
    let s : Start = search in
    let h = clear_fine (H s) c.in_ok-refused.ensures in
    let w = ap w_of c.index.view_is in
    let near = c.requires.near in
    let far = c.requires.far in
    let words = words_in s c.in_ok-refused.ensures c.index.view_is c.loop-i-test.true in
    asks (H s) h c.loop-i.outcomes (query_in (H s) _ _ w c.loop-i-test.true) _ (words _ (omega arith)) (c.loop-i.auto.marks ∙ c.clear.auto.list) c.loop-i.auto.outcomes
    (record { near = omega arith; far = omega arith })

pub loop-i-preserved : goal.loop-i-preserved
loop-i-preserved c =
    let s : Start = search in
    let h = clear_fine (H s) c.in_ok-refused.ensures in
    let w = ap w_of c.index.view_is in
    let a = c.answer.ensures in
    next (H s) h c.loop-i.outcomes (query_in (H s) _ _ w c.loop-i-test.true) _ (query_is (H s) _ _ w) c.loop-i.invariant (sym c.loop-i.auto.records) a.marks_after a.outcome_after a.entries_after
    a.distances_after a.records_after

pub returns : goal.returns
returns c =
    let s : Start = search in
    let h = clear_fine (H s) c.in_ok-refused.ensures in
    let all : c.loop-i.i ≡ length c.args.queries.now / c.index.inside.shape.w = omega (arith, c.loop-i-test.false, c.loop-i.auto.i-end) in
    (c.in_ok-refused.ensures, finish (H s) h (rw (all, ap w_of c.index.view_is) at c.loop-i.invariant))
