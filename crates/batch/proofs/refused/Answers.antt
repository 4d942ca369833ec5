-- `batch::refused` meets its contract: its tests are the rows. Assumes nothing.
use mathlib.Core.Path.{sym, ◌∙◌}
use Rattle.scope.specs.Batch.{Handed, batch}
use Rattle.scope.proofs.Rows.{passed_on}
use Rattle.batch.proofs.Refusing.{first_three, words, not_whole_code, past, marks_short, too_many, records_short, outcomes_short, all_fit}
use Rattle.batch.proofs.refused.Goals as goal
use Rattle.batch.proofs.refused.Goals.{Start}

abbrev H : Start → Handed
H s = batch s.args.index.now s.args.queries.now s.args.k s.args.marks.now s.args.outcomes.now s.args.places

pub returns-in_err-accepted : goal.returns-in_err-accepted
returns-in_err-accepted c = let s : Start = search in passed_on c.from_residual.ensures.1 ∙ sym (first_three (H s) c.in_err-accepted.ensures)

pub nonzero_rem-queries : goal.nonzero_rem-queries
nonzero_rem-queries c = let s : Start = search in words (H s) c.in_ok-accepted.ensures c.accepted.view_is c.words-w.ensures

pub returns-then-queries-w-ne0 : goal.returns-then-queries-w-ne0
returns-then-queries-w-ne0 c = let s : Start = search in not_whole_code (H s) c.in_ok-accepted.ensures c.accepted.view_is c.words-w.ensures c.if-queries-w-ne0.true

pub nonzero_div-count : goal.nonzero_div-count
nonzero_div-count c = let s : Start = search in words (H s) c.in_ok-accepted.ensures c.accepted.view_is c.words-w.ensures

pub returns-then-marks-words : goal.returns-then-marks-words
returns-then-marks-words c =
    let s : Start = search in
    let p = past (H s) c.in_ok-accepted.ensures c.accepted.view_is c.words-w.ensures c.mark_words-words.ensures in
    marks_short (H s) p c.if-queries-w-ne0.false c.if-marks-words.true

pub returns-then-count-gt256 : goal.returns-then-count-gt256
returns-then-count-gt256 c =
    let s : Start = search in
    let p = past (H s) c.in_ok-accepted.ensures c.accepted.view_is c.words-w.ensures c.mark_words-words.ensures in
    too_many (H s) p c.if-queries-w-ne0.false c.if-marks-words.false c.if-count-gt256.true

pub returns-then-places-count : goal.returns-then-places-count
returns-then-places-count c =
    let s : Start = search in
    let p = past (H s) c.in_ok-accepted.ensures c.accepted.view_is c.words-w.ensures c.mark_words-words.ensures in
    records_short (H s) p c.if-queries-w-ne0.false c.if-marks-words.false c.if-count-gt256.false c.if-places-count.true

pub returns-then-outcomes-count : goal.returns-then-outcomes-count
returns-then-outcomes-count c =
    let s : Start = search in
    let p = past (H s) c.in_ok-accepted.ensures c.accepted.view_is c.words-w.ensures c.mark_words-words.ensures in
    outcomes_short (H s) p c.if-queries-w-ne0.false c.if-marks-words.false c.if-count-gt256.false c.if-places-count.false c.if-outcomes-count.true

pub returns : goal.returns
returns c =
    let s : Start = search in
    let p = past (H s) c.in_ok-accepted.ensures c.accepted.view_is c.words-w.ensures c.mark_words-words.ensures in
    all_fit (H s) p c.if-queries-w-ne0.false c.if-marks-words.false c.if-count-gt256.false c.if-places-count.false c.if-outcomes-count.false
