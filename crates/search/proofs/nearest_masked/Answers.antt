-- `search::nearest_masked` meets its contract. Assumes nothing.
use mathlib.Core.Path.{◌≡◌, sym}
use mathlib.Core.List.{[], ◌∷◌}
use native.Mathlib.Omega.{arith}
use lib.Seq.{length-take-le}
use Rattle.scope.specs.Search.{K}
use Rattle.scope.specs.Tables.{n}
use Rattle.scope.specs.Walk.{masked}
use Rattle.scope.proofs.Rows.{passed_on}
use Rattle.walk.proofs.Asked.{of_asked}
use Rattle.search.proofs.Refusing
use Rattle.search.proofs.Answering
use Rattle.search.proofs.nearest_masked.Goals as goal
use Rattle.search.proofs.nearest_masked.Goals.{After-min-k}

pub returns-in_err-ask : goal.returns-in_err-ask
returns-in_err-ask c =
    rw (passed_on c.from_residual.ensures.1) (Answering.nearest_early (masked c.args.index.now c.args.query.now c.args.mask.now) _ _ _ c.args.k _ (Refusing.not_accepted _ _ _ _ _ c.in_err-ask.ensures))

-- the question in hand is the one that is asked, and of k it is K that is listed
record Ready (c : After-min-k) : Type 0 where
  fit : Refusing.Fit c.args.index.now c.args.query.now c.args.mask.now (0 ∷ []) c.args.marks.now c.in_ok-ask.ask c.mark_words-words.result
  k : c.min-k.result ≡ K c.args.index.now c.args.k

ready : (c : After-min-k) → Ready c
ready c =
    let a = Refusing.accepted _ _ _ _ _ c.in_ok-ask.ensures c.ask.view_is c.mark_words-words.ensures in
    let many = rw a.is at (of_asked n c.ask.view_is c.entries-n.ensures.value) in
    record { fit = a; k = omega (arith, c.min-k.ensures) }

pub returns-then-min-places : goal.returns-then-min-places
returns-then-min-places c =
    let r = ready (goal.at.returns-then-min-places c).After-min-k in
    Answering.nearest_few (masked c.args.index.now c.args.query.now c.args.mask.now) c.args.marks.now c.args.entries.now c.args.distances.now c.args.k r.fit.none
    (omega (arith, r.k, c.if-min-places.true))

pub slice_bounds-list_nearest-end : goal.slice_bounds-list_nearest-end
slice_bounds-list_nearest-end c = (ready (goal.at.slice_bounds-list_nearest-end c).After-min-k).fit.lent

pub slice_bounds-list_nearest-end-2 : goal.slice_bounds-list_nearest-end-2
slice_bounds-list_nearest-end-2 c = sym (length-take-le _ _ (ready (goal.at.slice_bounds-list_nearest-end-2 c).After-min-k).fit.lent)

pub list_nearest-requires-clause-cut : goal.list_nearest-requires-clause-cut
list_nearest-requires-clause-cut c =
    let r = ready (goal.at.list_nearest-requires-clause-cut c).After-min-k in
    rw (r.fit.is, r.fit.words)
    (Answering.needed-cut (masked c.args.index.now c.args.query.now c.args.mask.now) c.args.marks.now c.args.entries.now c.args.distances.now _ (r.fit.room, omega arith))

pub returns : goal.returns
returns c =
    let r = ready (goal.at.returns c).After-min-k in
    let listed = rw (r.fit.is, r.fit.words, r.k) at c.list_nearest.ensures in
    rw (r.fit.words, r.k)
    (Answering.nearest-whole (masked c.args.index.now c.args.query.now c.args.mask.now) c.args.marks.now c.args.entries.now c.args.distances.now c.args.k r.fit.none
    (r.fit.room, omega (arith, r.k)) listed)
