-- `tables::all_right` meets its contract. Assumes nothing.
use mathlib.Core.Path.{ap}
use Prim.Native.Nat.{◌<◌}
use native.Mathlib.Omega.{arith}
use Rattle.std.proofs.Common.{rules, tests}
use Rattle.std.proofs.lemmas.Iterator.{serves_from_Range, cases_from_all, YieldsList-from_range}
use Rattle.scope.specs.Shape.{m}
use Rattle.scope.specs.Tables.{Index}
use Rattle.shapes.proofs.Accepting.{fits_lent}
use Rattle.tables.proofs.Parts
use Rattle.tables.proofs.all_right.Goals as goal

pub all-requires-clause-callable : goal.all-requires-clause-callable
all-requires-clause-callable c =
    serves_from_Range (λ z q k. search rules)
    (λ z a b. let h : z < m c.args.index.now.shape = omega (arith, c.m.ensures, ap (λ (x : Index). m x.shape) c.index.view_is) in search rules)

pub returns : goal.returns
returns c =
    let x = c.args.index.now in
    let fits = fits_lent (rw c.index.view_is at c.index.invariant) in
    Parts.all_sound x fits _
    (cases_from_all _ _ _ (Parts.Right x) (λ z. Parts.Right x z → ⊥) c.all.ensures.ran (YieldsList-from_range 0 (m x.shape) (m x.shape) (search rules) (omega arith))
    (λ z q k. search (rules, tests)) (λ z q k. search (rules, tests)))
