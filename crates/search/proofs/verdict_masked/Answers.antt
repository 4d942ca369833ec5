-- `search::verdict_masked` meets its contract. Assumes nothing.
use mathlib.Core.Path.{sym, ap, ◌∙◌}
use mathlib.Core.List.{[], ◌∷◌}
use Prim.Native.Nat.{ℕ, max}
use lib.Seq.{length-take-le}
use Rattle.theory.specs.Lists.{padded}
use Rattle.scope.specs.Walk.{masked}
use Rattle.scope.proofs.Rows.{passed_on}
use Rattle.search.proofs.Refusing
use Rattle.search.proofs.Verdicts
use Rattle.search.proofs.verdict_masked.Goals as goal
use Rattle.search.proofs.verdict_masked.Goals.{After-mark_words-words}

pub returns-in_err-ask : goal.returns-in_err-ask
returns-in_err-ask c =
    let e = rw c.max.ensures at c.in_err-ask.ensures in
    rw (passed_on c.from_residual.ensures.1) (Verdicts.verdict_early (masked c.args.index.now c.args.query.now c.args.mask.now) _ c.args.t c.args.g _ (Refusing.not_accepted _ _ _ _ _ e))

-- the question in hand is the one that is asked
fit : (c : After-mark_words-words)
    → Refusing.Fit c.args.index.now c.args.query.now c.args.mask.now (max c.args.t c.args.g ∷ []) c.args.marks.now c.in_ok-ask.ask c.mark_words-words.result
fit c = Refusing.accepted _ _ _ _ _ (rw c.max.ensures at c.in_ok-ask.ensures) c.ask.view_is c.mark_words-words.ensures

pub slice_bounds-give_verdict-end : goal.slice_bounds-give_verdict-end
slice_bounds-give_verdict-end c = (fit (goal.at.slice_bounds-give_verdict-end c).After-mark_words-words).lent

pub slice_bounds-give_verdict-end-2 : goal.slice_bounds-give_verdict-end-2
slice_bounds-give_verdict-end-2 c = sym (length-take-le _ _ (fit (goal.at.slice_bounds-give_verdict-end-2 c).After-mark_words-words).lent)

pub give_verdict-requires : goal.give_verdict-requires
give_verdict-requires c = let a = fit (goal.at.give_verdict-requires c).After-mark_words-words in rw (a.is, a.words) (length-take-le _ _ a.room)

pub returns : goal.returns
returns c =
    let a = fit (goal.at.returns c).After-mark_words-words in
    let v = rw (a.is, a.words) at c.give_verdict.ensures in
    let marks = v.marks_after ∙ ap (λ (k : ℕ). padded k []) (length-take-le _ _ a.room) in
    rw a.words (Verdicts.verdict-whole (masked c.args.index.now c.args.query.now c.args.mask.now) c.args.marks.now c.args.t c.args.g a.none _ _ v.value marks)
