-- `Question::of` meets its contract. Assumes nothing.
use mathlib.Core.Path.{◌≡◌, sym, ap}
use mathlib.Core.Bool.{not}
use native.Mathlib.Omega.{arith}
use lib.Dec.{eqb}
use lib.ListN.{length}
use borrow.Author.Tests.{eq-eqb, ne_eqb}
use Rattle.theory.proofs.Tests.{same_arms}
use Rattle.scope.specs.Refusals.{unless}
use Rattle.scope.specs.Tables.{Index}
use Rattle.walk.proofs.question.Question.of.Goals as goal

pub returns-then-query-words : goal.returns-then-query-words
unfolding unless
returns-then-query-words c =
    let w = ap (λ (x : Index). x.shape.w) c.index.view_is in
    rw (ne_eqb (length c.args.query.now) c.args.index.shape.w (omega arith))

pub returns-then-mask-words : goal.returns-then-mask-words
unfolding unless
returns-then-mask-words c =
    let w = ap (λ (x : Index). x.shape.w) c.index.view_is in
    rw (ne_eqb (length c.args.mask.now) c.args.index.shape.w (omega arith)) (sym (same_arms (not (eqb (length c.args.query.now) c.args.index.shape.w)) _))

pub returns : goal.returns
unfolding unless
returns c =
    let w = ap (λ (x : Index). x.shape.w) c.index.view_is in
    let query : length c.args.query.now ≡ c.args.index.shape.w = omega arith in
    let mask : length c.args.mask.now ≡ c.args.index.shape.w = omega arith in
    rw (eq-eqb _ _ query, eq-eqb _ _ mask)
