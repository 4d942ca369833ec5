-- `search::within_masked` meets its contract. Assumes nothing.
use mathlib.Core.Path.{◌≡◌, sym, ◌∙◌}
use mathlib.Core.List.{[], ◌∷◌}
use Prim.Native.Nat.{min}
use native.Mathlib.Omega.{arith}
use lib.ListN.{length}
use lib.Seq.{length-take-le}
use borrow.Author.Tests.{ltb-false}
use Rattle.theory.proofs.Lists.{any_one}
use Rattle.scope.specs.Tables.{n}
use Rattle.scope.specs.Walk.{masked}
use Rattle.scope.proofs.Rows.{passed_on}
use Rattle.walk.proofs.Asked.{of_asked}
use Rattle.search.proofs.Refusing
use Rattle.search.proofs.Answering
use Rattle.search.proofs.within_masked.Goals as goal
use Rattle.search.proofs.within_masked.Goals.{After-min-places}

pub returns-in_err-ask : goal.returns-in_err-ask
returns-in_err-ask c =
    rw (passed_on c.from_residual.ensures.1) (Answering.within_early (masked c.args.index.now c.args.query.now c.args.mask.now) _ _ _ c.args.r _ (Refusing.not_accepted _ _ _ _ _ c.in_err-ask.ensures))

-- the question in hand is the one that is asked, and the places are as many as entries, or as both lists hold
record Ready (c : After-min-places) : Type 0 where
  fit : Refusing.Fit c.args.index.now c.args.query.now c.args.mask.now (c.args.r ∷ []) c.args.marks.now c.in_ok-ask.ask c.mark_words-words.result
  many : c.entries.result ≡ n c.args.index.now
  places : c.min-places.result ≡ min (n c.args.index.now) (min (length c.args.entries.now) (length c.args.distances.now))

ready : (c : After-min-places) → Ready c
ready c =
    let a = Refusing.accepted _ _ _ _ _ c.in_ok-ask.ensures c.ask.view_is c.mark_words-words.ensures in
    let many = rw a.is at (of_asked n c.ask.view_is c.entries.ensures.value) in
    record { fit = a; many = many; places = omega (arith, c.min-places.ensures, c.min-shorter.ensures) }

pub slice_bounds-list_within-end : goal.slice_bounds-list_within-end
slice_bounds-list_within-end c = (ready (goal.at.slice_bounds-list_within-end c).After-min-places).fit.lent

pub slice_bounds-list_within-end-2 : goal.slice_bounds-list_within-end-2
slice_bounds-list_within-end-2 c = sym (length-take-le _ _ (ready (goal.at.slice_bounds-list_within-end-2 c).After-min-places).fit.lent)

pub list_within-requires : goal.list_within-requires
list_within-requires c =
    let r = ready (goal.at.list_within-requires c).After-min-places in
    let cut = Answering.needed-cut (masked c.args.index.now c.args.query.now c.args.mask.now) c.args.marks.now c.args.entries.now c.args.distances.now c.min-places.result (r.fit.room, omega (arith, r.places)) in
    rw (r.fit.is, r.fit.words, cut.listed) (record { bounds = (ltb-false _ _ (sym (any_one _ _) ∙ r.fit.limited), omega (arith, r.many), omega (arith, r.many)); cut = cut })

pub returns : goal.returns
returns c =
    let r = ready (goal.at.returns c).After-min-places in
    let listed = rw (r.fit.is, r.fit.words, r.places) at c.list_within.ensures in
    rw (r.fit.words, r.places)
    (Answering.within-whole (masked c.args.index.now c.args.query.now c.args.mask.now) c.args.marks.now c.args.entries.now c.args.distances.now c.args.r r.fit.none
    (r.fit.room, omega arith) listed)
