-- `search::accept` meets its contract: its tests are the rows of refusals 1 to 5. Assumes nothing.
use Rattle.std.specs.Prelude.{Ok, Err}
use mathlib.Core.Path.{◌≡◌, sym, ap, ◌∙◌}
use mathlib.Core.Bool.{cond}
use mathlib.Core.List.{[], ◌∷◌, ◌++◌}
use lib.Dec.{ltb}
use lib.ListN.{length}
use borrow.Author.Tests.{lt-ltb, le-ltb}
use Rattle.theory.proofs.Lists.{any_one}
use Rattle.scope.specs.declared.Refusal.TheVariants.{Query, Room}
use Rattle.scope.specs.Shape.{q}
use Rattle.scope.specs.Tables.{Index, n}
use Rattle.scope.specs.Walk.{Question, masked}
use Rattle.scope.specs.Refusals.{unless, one_to_three, one_to_five, wrong_query, wrong_mask, mark_words}
use Rattle.scope.proofs.Rows.{passed_on}
use Rattle.search.proofs.Refusing.{given, first_three, first_four, past_four}
use Rattle.search.proofs.accept.Goals as goal
use Rattle.search.proofs.accept.Goals.{After-q}

-- past refusals 1 to 3, and past 4 for the query, two tests are left
tests : (c : After-q) → let x = c.args.index.now in let query = c.args.query.now in let mask = c.args.mask.now in let marks = c.args.marks.now in
    unless (one_to_five x query mask (c.args.limit ∷ []) marks) Err (Ok (masked x query mask))
    ≡ cond (ltb c.q.result c.args.limit) (Err Query) (cond (ltb (length marks) (mark_words (n c.ask.inside.index))) (Err Room) (Ok c.in_ok-ask.ask))
unfolding unless
tests c =
    let x = c.args.index.now in
    let query = c.args.query.now in
    let mask = c.args.mask.now in
    let (none, index) = given (one_to_three x) c.in_ok-index.ensures in
    let (none', ask) = given (wrong_query x.shape query ++ wrong_mask x.shape mask) (rw index at c.in_ok-ask.ensures) in
    let inside = ap (λ (a : Question). a.index) (c.ask.view_is ∙ ask) in
    let top = c.q.ensures.value ∙ ap (λ (i : Index). q i.shape) (c.index.view_is ∙ inside) in
    past_four x query mask (c.args.limit ∷ []) c.args.marks.now Err (Ok (masked x query mask)) none none' ∙ rw (any_one, top, inside, ask)

pub returns-in_err-index : goal.returns-in_err-index
returns-in_err-index c = passed_on c.from_residual.ensures.1 ∙ sym (first_three _ _ _ _ _ _ _ c.in_err-index.ensures)

pub returns-in_err-ask : goal.returns-in_err-ask
returns-in_err-ask c =
    let (none, index) = given (one_to_three c.args.index.now) c.in_ok-index.ensures in
    passed_on c.from_residual-in_err-ask.ensures.1 ∙ sym (first_four _ _ _ _ _ _ _ none _ (rw index at c.in_err-ask.ensures))

pub returns-then-q-limit : goal.returns-then-q-limit
returns-then-q-limit c = sym (tests (goal.at.returns-then-q-limit c).After-q ∙ rw (lt-ltb _ _ c.if-q-limit.true))

pub returns-then-marks-mark_words : goal.returns-then-marks-mark_words
returns-then-marks-mark_words c =
    let few = rw c.mark_words.ensures at c.if-marks-mark_words.true in
    sym (tests (goal.at.returns-then-marks-mark_words c).After-q ∙ rw (le-ltb _ _ c.if-q-limit.false, lt-ltb _ _ few))

pub returns : goal.returns
returns c =
    let room = rw c.mark_words.ensures at c.if-marks-mark_words.false in
    sym (tests (goal.at.returns c).After-q ∙ rw (le-ltb _ _ c.if-q-limit.false, le-ltb _ _ room))
