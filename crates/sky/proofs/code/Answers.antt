use Rattle.std.specs.Prelude.{Result, Ok}
use Rattle.scope.specs.declared.Refusal.{Refusal}
use mathlib.Core.Path.{◌≡◌, ◌∙◌}
use mathlib.Core.List.{List}
use Prim.Native.Nat.{ℕ}
use native.Mathlib.Numerals.{add-one}
use native.Mathlib.Omega.{arith}
use lib.Ieee.{Float, nan}
use lib.ListN.{get_or}
use borrow.Author.Tests.{lt-ltb}
use Rattle.scope.specs.declared.Angle.{Angle}
use Rattle.scope.specs.declared.Unit.{Unit}
use Rattle.scope.specs.Sky.{angle_of, angle_at}
use Rattle.scope.proofs.Rows.{passed_on}
use Rattle.sky.specs.Place.{star_of}
use Rattle.sky.proofs.Places.{star-lt}
use Rattle.theory.proofs.Numbers.{one_shl}
use Rattle.sky.proofs.Pairs.{none_gone, turn, finish}
use Rattle.sky.proofs.Stars.{Passed, star_at, unequal, too_many_lem, none_yet, one_more, refused_at, all_passed}
use Rattle.sky.proofs.code.Goals as goal
use Rattle.sky.proofs.code.Goals.{then-across-up-via-then-across-up, then-across-up-via-else-across-up+then-across-gt-MOST_STARS, In_ok-cell}

-- what `star` answered after two calls of `in_unit`, in the words of the definitions
seen : (u : Unit) (across up : List Float) (k : ℕ) {r : Result ℕ Refusal} {a b : Angle} {x y : Float} → x ≡ get_or across k nan → y ≡ get_or up k nan
    → a ≡ angle_of u x → b ≡ angle_of u y → r ≡ star_of k a b → star_at u across up k ≡ r
unfolding angle_at
seen u across up k e f g h i = cc

pub returns-then-across-up : goal.returns-then-across-up
returns-then-across-up c =
    elim c.then-across-up.branch [
      | then-across-up-via-then-across-up w ↦ unequal _ _ _ w.if-across-up.true
      | then-across-up-via-else-across-up+then-across-gt-MOST_STARS w ↦ too_many_lem _ _ _ w.if-across-up.false (lt-ltb _ _ w.if-across-gt-MOST_STARS.true)
    ]

pub loop-k-init : goal.loop-k-init
loop-k-init c =
    let none : c.into_iter-k-iterator.result.count ≡ 0 = cc in
    (omega (arith, none), none_gone none (cc) (cc), record { equal = c.if-across-up.false; few = c.if-across-gt-MOST_STARS.false }, rw none (none_yet _ _ _))

-- the cell of star k, in the words of the definitions
cell : (c : In_ok-cell) → star_at c.args.unit c.args.across.now c.args.up.now c.in-Some.k ≡ Ok c.in_ok-cell.cell
cell c =
    let t = turn c.loop-k.invariant.1 c.next.new.self c.next.ensures.steps _ nan c.in-Some.is in
    seen c.args.unit c.args.across.now c.args.up.now c.in-Some.k t.2 t.3 c.in_unit.ensures c.in_unit-in-loop-k.ensures c.star.ensures ∙ c.in_ok-cell.was

pub overflow_shl-code : goal.overflow_shl-code
overflow_shl-code c = star-lt _ _ _ _ (cell c)

pub returns-in_err-cell : goal.returns-in_err-cell
returns-in_err-cell c =
    let t = turn c.loop-k.invariant.1 c.next.new.self c.next.ensures.steps _ nan c.in-Some.is in
    let p : Passed c.args.unit c.args.across.now c.args.up.now c.in-Some.k c.loop-k.code = rw t.0 c.loop-k.invariant.3 in
    passed_on c.from_residual.ensures.1
    ∙ refused_at _ _ _ p c.loop-k.invariant.2 t.1 _
    (seen c.args.unit c.args.across.now c.args.up.now c.in-Some.k t.2 t.3 c.in_unit.ensures c.in_unit-in-loop-k.ensures c.star.ensures ∙ c.in_err-cell.was)

pub loop-k-preserved : goal.loop-k-preserved
loop-k-preserved c =
    let t = turn c.loop-k.invariant.1 c.next.new.self c.next.ensures.steps _ nan c.in-Some.is in
    let p : Passed c.args.unit c.args.across.now c.args.up.now c.in-Some.k c.loop-k.code = rw t.0 c.loop-k.invariant.3 in
    (omega (arith, t), t.5, c.loop-k.invariant.2, rw (t.4, one_shl _ (star-lt _ _ _ _ (cell c)), add-one) (one_more _ _ _ p _ (cell c)))

pub returns : goal.returns
returns c =
    let l = c.loop-k in
    all_passed _ _ _ l.invariant.2 _ _ (finish l.invariant.1 c.next.new.self c.next.ensures.steps l.invariant.2.equal l.invariant.0 c.in-None.is) l.invariant.3
