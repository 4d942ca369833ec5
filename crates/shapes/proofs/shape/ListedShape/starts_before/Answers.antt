-- `ListedShape::starts_before` meets its contract, by the closed form: no more than all the starts, it is a small number. Assumes nothing.
use mathlib.Core.Path.{◌≡◌, sym, ap, ap₂, ◌∙◌}
use Prim.Native.Nat.{ℕ, ◌+◌, ◌*◌, ◌/◌, ◌%◌, ◌^◌, ◌≤◌, min}
use native.Mathlib.Omega.{arith}
use lib.Pow.{pow_mono}
use Rattle.theory.proofs.Numbers.{one_shl}
use Rattle.theory.proofs.Sums.{sum_grows}
use Rattle.scope.specs.Shape.{q, m, size, starts_before}
use Rattle.scope.proofs.Shapes.{facts, few_least, starts_closed}
use Rattle.shapes.proofs.shape.ListedShape.starts_before.Goals as goal
use Rattle.shapes.proofs.shape.ListedShape.starts_before.Goals.{After-least-each, After-min}

few : (c : After-least-each) → c.least-each.result ≤ 16
few c = omega (arith, c.least-each.ensures.value, few_least c.args.self (facts c.args.self c.least-each.ensures.known))

pub overflow_shl-each : goal.overflow_shl-each
overflow_shl-each c = omega (arith, few c)

-- what `each` is; and that it is small
each : (c : After-least-each) → let sh = c.args.self in 1 * 2 ^ c.least-each.result % 2 ^ 64 ≡ 2 ^ (q sh / m sh)
each c = one_shl c.least-each.result (omega (arith, few c)) ∙ ap (λ (k : ℕ). 2 ^ k) c.least-each.ensures.value

pub overflow_add-result : goal.overflow_add-result
overflow_add-result c = omega (arith, each c, pow_mono (few_least c.args.self (facts c.args.self c.least-each.ensures.known)))

small : (c : After-least-each) → starts_before c.args.self c.args.z ≤ 1048592
small c =
    let sh = c.args.self in
    let f = facts sh c.least-each.ensures.known in
    omega (arith, f.parts c.args.z, f.parts (m sh), sum_grows (λ z. size sh z + 1) c.args.z (m sh) c.requires, f.all-starts)

pub overflow_mul-result : goal.overflow_mul-result
overflow_mul-result c = omega (arith, small c, starts_closed c.args.self c.args.z, ap (λ (k : ℕ). c.args.z * (k + 1)) (each c))

-- how many longer tables there are before z
longer : (c : After-min) → let a = c.args in c.min.result ≡ min a.z (q a.self % m a.self)
longer c = c.min.ensures ∙ ap (min c.args.z) c.longer.ensures

pub overflow_mul-result-2 : goal.overflow_mul-result-2
overflow_mul-result-2 c =
    let at-least : After-least-each = search in
    omega (arith, small at-least, starts_closed c.args.self c.args.z, ap₂ (λ (x y : ℕ). y * x) (each at-least) (longer c))

is_starts_before : (c : After-min) → let a = c.args in
    let each = 1 * 2 ^ c.least-each.result % 2 ^ 64 in
    a.z * (each + 1) + c.min.result * each ≡ starts_before a.self a.z
is_starts_before c =
    let at-least : After-least-each = search in
    let a = c.args in
    ap₂ (λ (x y : ℕ). a.z * (x + 1) + y * x) (each at-least) (longer c) ∙ sym (starts_closed a.self a.z)

pub overflow_add-result-2 : goal.overflow_add-result-2
overflow_add-result-2 c =
    let at-least : After-least-each = search in
    omega (arith, small at-least, is_starts_before c)

pub returns : goal.returns
returns c = is_starts_before c
