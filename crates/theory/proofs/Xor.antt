-- Exclusive-or with a number undoes itself. Assumes nothing.
use mathlib.Core.Path.{◌≡◌, refl, sym, ap, ap₂, ◌∙◌}
use Prim.Native.Nat.{ℕ, zero, suc, ◌+◌, ◌*◌, ◌/◌, ◌%◌, ◌<◌}
use native.Mathlib.Nat.{mod-lt, div-add-mod', zero-lt-suc}
use native.Mathlib.Omega.{arith}
use lib.Arith.{bin_ind}
use lib.Bits.{bit_xor, differ, xor_step, xor_shr, xor_mod}
use lib.Dec.{eqb}
use Rattle.theory.proofs.Tests.{eqb_iff}
use Rattle.theory.proofs.Numbers.{xor-bits}

differ_undo : (x y : ℕ) → x < 2 → y < 2 → differ x (differ x y) ≡ y
differ_undo zero y hx hy = refl
differ_undo (suc zero) zero hx hy = refl
differ_undo (suc zero) (suc zero) hx hy = refl
differ_undo (suc zero) (suc (suc y)) hx hy = absurd (omega arith)
differ_undo (suc (suc x)) y hx hy = absurd (omega arith)

digit : (a : ℕ) → a % 2 < 2
digit a = mod-lt a (zero-lt-suc 1)

-- the low digit
xor_low : (a b : ℕ) → bit_xor a b % 2 ≡ differ (a % 2) (b % 2)
xor_low a b = xor_mod a b 1 ∙ xor-bits (a % 2) (b % 2) (digit a) (digit b)

pub xor_undo : (a b : ℕ) → bit_xor a (bit_xor a b) ≡ b
xor_undo =
    bin_ind (λ (n : ℕ). (b : ℕ) → bit_xor n (bit_xor n b) ≡ b) (λ b. refl)
    (λ n ih b.
    xor_step n (bit_xor n b)
    ∙ ap₂ (λ (h l : ℕ). h * 2 + l)
    (ap (bit_xor (n / 2)) (xor_shr n b 1) ∙ ih (b / 2))
    (ap (differ (n % 2)) (xor_low n b) ∙ differ_undo (n % 2) (b % 2) (digit n) (digit b))
    ∙ div-add-mod' b 2)

pub eqb-xor : (q v e : ℕ) → eqb v (bit_xor q e) ≡ eqb (bit_xor q v) e
eqb-xor q v e = eqb_iff v (bit_xor q e) (bit_xor q v) e (λ h. ap (bit_xor q) h ∙ xor_undo q e) (λ h. sym (xor_undo q v) ∙ ap (bit_xor q) h)
