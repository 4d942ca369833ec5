-- `codes::substring` meets its contract: within one word, or from one into the next. Assumes nothing.
use mathlib.Core.Path.{◌≡◌, sym, ap, ◌∙◌}
use mathlib.Core.List.{List}
use Prim.Native.Nat.{ℕ, ◌+◌, ◌-◌, ◌*◌, ◌/◌, ◌%◌, ◌^◌, ◌≤◌, ◌<◌}
use native.Mathlib.Nat.{mod-lt}
use native.Mathlib.Omega.{arith}
use lib.ListN.{get_or}
use lib.Pow.{pow_pos, pow_mono, shl_exact}
use Rattle.theory.proofs.Numbers.{one_shl}
use Rattle.scope.specs.Codes.{substring}
use Rattle.scope.proofs.Codes.{substring-lt, substring_word, substring_cross}
use Rattle.codes.proofs.substring.Goals as goal

-- what the second branch computes
crossed : (from len : ℕ) (x : List ℕ) → 64 < from % 64 + len → len ≤ 32 → get_or x (from / 64) 0 < 2 ^ 64
    → get_or x (from / 64) 0 / 2 ^ (from % 64)
    + get_or x (from / 64 + 1) 0 % (1 * 2 ^ (len - (64 - from % 64)) % 2 ^ 64) * 2 ^ (64 - from % 64) % 2 ^ 64
    ≡ substring from len x
crossed from len x over small h =
    let low = 64 - from % 64 in
    let high = len - low in
    let both : low + high ≡ len = omega arith in
    let kept = shl_exact high low 64 (mod-lt (get_or x (from / 64 + 1) 0) (pow_pos high)) (omega arith) in
    rw (one_shl high (omega arith), kept) (sym (substring_cross from low high x (omega arith) (omega arith) h) ∙ ap (λ (n : ℕ). substring from n x) both)

pub returns-then-o-len-le64 : goal.returns-then-o-len-le64
returns-then-o-len-le64 c =
    let a = c.args in
    let rest = get_or a.code.now (a.from / 64) 0 / 2 ^ (a.from % 64) in
    ap (λ (n : ℕ). rest % n) (one_shl a.len (omega arith)) ∙ sym (substring_word a.from a.len a.code.now (omega arith))

pub returns-else-o-len-le64 : goal.returns-else-o-len-le64
returns-else-o-len-le64 c =
    let word = c.type_inv.code (c.args.from / 64) in
    crossed c.args.from c.args.len c.args.code.now (omega arith) (omega arith) (omega arith)

-- the sum is a number of len bits
pub overflow_add-result : goal.overflow_add-result
overflow_add-result c =
    let small : 2 ^ c.args.len ≤ 2 ^ 32 = pow_mono {j = 32} (omega arith) in
    omega (arith, returns-else-o-len-le64 c, substring-lt c.args.from c.args.len c.args.code.now)
