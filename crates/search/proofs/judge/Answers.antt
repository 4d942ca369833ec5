-- `search::judge` meets its contract. Assumes nothing.
use mathlib.Core.Path.{sym}
use Prim.Native.Nat.{ℕ}
use borrow.Author.Tests.{eqb-true, eqb-false}
use lib.ListN.{get_or}
use Rattle.search.proofs.Judging
use Rattle.search.proofs.judge.Goals as goal

pub returns-then-eq : goal.returns-then-eq
returns-then-eq c = Judging.nothing (λ (i : ℕ). get_or c.args.index.now.stars i 0) c.args.t c.args.g c.args.rivals (eqb-true _ _ (sym c.if-eq.ensures))

pub returns-then-t-distance : goal.returns-then-t-distance
returns-then-t-distance c =
    let some = eqb-false _ _ (sym c.if-eq.ensures) in
    Judging.far (λ (i : ℕ). get_or c.args.index.now.stars i 0) c.args.t c.args.g c.args.rivals some _ c.distance-distance.ensures c.if-t-distance.true

pub returns-then-eq-2 : goal.returns-then-eq-2
returns-then-eq-2 c =
    let some = eqb-false _ _ (sym c.if-eq.ensures) in
    Judging.alone (λ (i : ℕ). get_or c.args.index.now.stars i 0) c.args.t c.args.g c.args.rivals some _ c.distance-distance.ensures c.if-t-distance.false (eqb-true _ _ (sym c.if-eq-2.ensures))

pub returns-then-farther-distance : goal.returns-then-farther-distance
returns-then-farther-distance c =
    let some = eqb-false _ _ (sym c.if-eq.ensures) in
    let other = eqb-false _ _ (sym c.if-eq-2.ensures) in
    rw c.star-other.ensures
    (Judging.close (λ (i : ℕ). get_or c.args.index.now.stars i 0) c.args.t c.args.g c.args.rivals some _ c.distance-distance.ensures c.if-t-distance.false other _ c.distance-farther.ensures _ c.entry.ensures c.if-farther-distance.true)

pub returns : goal.returns
returns c =
    let some = eqb-false _ _ (sym c.if-eq.ensures) in
    let other = eqb-false _ _ (sym c.if-eq-2.ensures) in
    Judging.clear (λ (i : ℕ). get_or c.args.index.now.stars i 0) c.args.t c.args.g c.args.rivals some _ c.distance-distance.ensures c.if-t-distance.false other _ c.distance-farther.ensures c.if-farther-distance.false
