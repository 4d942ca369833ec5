-- `ListedShape::bits` meets its contract. Assumes nothing.
use mathlib.Core.Path.{ap}
use Prim.Native.Nat.{ℕ, ◌+◌, ◌<◌, ◌≤◌, ◌%◌}
use native.Mathlib.Omega.{arith}
use borrow.Author.Tests.{lt-ltb, le-ltb}
use Rattle.scope.specs.Shape.{q, m, len}
use Rattle.scope.proofs.Shapes.{facts, few_least}
use Rattle.shapes.proofs.shape.ListedShape.bits.Goals as goal

pub returns-then-z-longer-clause-value : goal.returns-then-z-longer-clause-value
unfolding len
returns-then-z-longer-clause-value c =
    let sh = c.args.self in
    let l : c.args.z < q sh % m sh = omega (arith, c.if-z-longer.true, c.longer.ensures) in
    rw (lt-ltb c.args.z (q sh % m sh) l) (ap (λ (k : ℕ). k + 1) c.least.ensures.value)

pub returns-then-z-longer-clause-few : goal.returns-then-z-longer-clause-few
unfolding len
returns-then-z-longer-clause-few c =
    let sh = c.args.self in
    let l : c.args.z < q sh % m sh = omega (arith, c.if-z-longer.true, c.longer.ensures) in
    let few = rw (lt-ltb c.args.z (q sh % m sh) l) at ((facts sh c.least.ensures.known).few_bits c.args.z) in
    omega (arith, few, c.least.ensures.value)

pub returns-else-z-longer-clause-value : goal.returns-else-z-longer-clause-value
unfolding len
returns-else-z-longer-clause-value c =
    let sh = c.args.self in
    let l : q sh % m sh ≤ c.args.z = omega (arith, c.if-z-longer.false, c.longer.ensures) in
    rw (le-ltb c.args.z (q sh % m sh) l) c.least-else-z-longer.ensures.value

pub returns-else-z-longer-clause-few : goal.returns-else-z-longer-clause-few
returns-else-z-longer-clause-few c =
    let sh = c.args.self in
    omega (arith, c.least-else-z-longer.ensures.value, few_least sh (facts sh c.least-else-z-longer.ensures.known))
