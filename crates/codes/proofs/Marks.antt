-- Laws of marks: one mark set, and marks cleared. Assumes nothing.
use mathlib.Core.Path.{◌≡◌, refl, ap, ◌∙◌}
use mathlib.Core.Logic.{⊎_elim}
use mathlib.Core.Bool.{true, false}
use mathlib.Core.List.{List, []}
use Prim.Native.Nat.{ℕ, ◌*◌, ◌/◌, ◌%◌, ◌^◌, ◌<◌, max}
use native.Mathlib.Nat.{max-zero, max-eq_right, le_of_suc-le-suc, zero-div}
use native.Mathlib.Omega.{arith}
use borrow.Author.Tests.{eq-eqb, ne_eqb}
use lib.Dec.{eqb}
use lib.ListN.{length, get_or, length-set, get_or-append}
use lib.Seq.{get_or-set_same, get_or-set_other}
use Rattle.theory.specs.Lists.{over, padded}
use Rattle.theory.proofs.Tests.{eq-or_ne, one_if}
use Rattle.theory.proofs.Digits.{digit_or, digit_power}
use Rattle.theory.proofs.Lists.{get_d_tab, length-padded}
use Rattle.scope.specs.Codes.{bit}
use Rattle.codes.specs.Marks.{is_marked, with_mark}
use Rattle.scope.proofs.Codes.{bit-lt}

-- ---- one mark set

with_mark-same : (marks : List ℕ) (i : ℕ) → i < 64 * length marks → bit (with_mark marks i) i ≡ 1
unfolding bit with_mark
with_mark-same marks i h =
    ap (λ (n : ℕ). n / 2 ^ (i % 64) % 2) (get_or-set_same marks (i / 64) _ 0 (omega arith))
    ∙ digit_or (get_or marks (i / 64) 0) (2 ^ (i % 64)) (i % 64)
    ∙ ap (max (bit marks i)) (digit_power (i % 64) (i % 64) ∙ ap one_if (eq-eqb (i % 64) (i % 64) refl))
    ∙ max-eq_right (le_of_suc-le-suc (bit-lt marks i))

with_mark-other : (marks : List ℕ) (i j : ℕ) → i < 64 * length marks → (j ≡ i → ⊥) → bit (with_mark marks i) j ≡ bit marks j
unfolding bit with_mark
with_mark-other marks i j h ne =
    ⊎_elim
    (λ (e : j / 64 ≡ i / 64).
    rw e
    (ap (λ (n : ℕ). n / 2 ^ (j % 64) % 2) (get_or-set_same marks (i / 64) _ 0 (omega arith))
    ∙ digit_or (get_or marks (i / 64) 0) (2 ^ (i % 64)) (j % 64)
    ∙ ap (max (get_or marks (i / 64) 0 / 2 ^ (j % 64) % 2)) (digit_power (i % 64) (j % 64) ∙ ap one_if (ne_eqb (j % 64) (i % 64) (λ p. ne (omega arith))))
    ∙ max-zero (get_or marks (i / 64) 0 / 2 ^ (j % 64) % 2)))
    (λ g. ap (λ (n : ℕ). n / 2 ^ (j % 64) % 2) (get_or-set_other marks (i / 64) (j / 64) _ 0 g))
    (eq-or_ne (j / 64) (i / 64))

pub is_marked-same : (marks : List ℕ) (i : ℕ) → i < 64 * length marks → is_marked (with_mark marks i) i ≡ true
unfolding is_marked
is_marked-same marks i h = eq-eqb _ 1 (with_mark-same marks i h)

pub is_marked-other : (marks : List ℕ) (i j : ℕ) → i < 64 * length marks → (j ≡ i → ⊥) → is_marked (with_mark marks i) j ≡ is_marked marks j
unfolding is_marked
is_marked-other marks i j h ne = ap (λ (b : ℕ). eqb b 1) (with_mark-other marks i j h ne)

pub length-with_mark : (marks : List ℕ) (i : ℕ) → length (with_mark marks i) ≡ length marks
unfolding with_mark
length-with_mark marks i = length-set marks (i / 64) _

-- ---- marks cleared

pub is_marked-zero : (marks : List ℕ) (i : ℕ) → get_or marks (i / 64) 0 ≡ 0 → is_marked marks i ≡ false
unfolding is_marked bit
is_marked-zero marks i e = rw (e, zero-div) refl

pub is_marked-clear : (marks : List ℕ) (n i : ℕ) → i < 64 * n → is_marked (over (padded n []) marks) i ≡ false
is_marked-clear marks n i h =
    is_marked-zero (over (padded n []) marks) i
    (get_or-append (padded n []) _ 0 (i / 64) (rw length-padded (omega arith)) ∙ get_d_tab (λ p. get_or [] p 0) 0 n (i / 64) (omega arith))
