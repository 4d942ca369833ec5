-- What the sky maker's answer says: the code's bits are the cells that have a star. Assumes nothing.
use Rattle.std.specs.Prelude.{Ok, Err, Result}
use Rattle.scope.specs.declared.Refusal.{Refusal}
use mathlib.Core.Path.{◌≡◌, sym, ap, ap₂, ◌∙◌}
use mathlib.Core.Logic.{◌⊎◌, inl, inr}
use mathlib.Core.Bool.{true, false, ◌||◌, or-false}
use mathlib.Core.List.{List, [], ◌∷◌, ◌++◌}
use Prim.Native.Nat.{ℕ, zero, suc, ◌/◌, ◌%◌, ◌^◌, ◌<◌, max}
use native.Mathlib.Nat.{zero-div, div-eq_of_lt, mod-eq_of_lt}
use native.Mathlib.Omega.{arith}
use lib.Dec.{eqb}
use lib.ListN.{length}
use lib.Ieee.{Float}
use borrow.Author.Tests.{eqb-true}
use Rattle.theory.specs.Lists.{cat, tab, any, has}
use Rattle.theory.proofs.Tests.{max_is_or, either, one_if}
use Rattle.theory.proofs.Lists.{has-suc}
use Rattle.theory.proofs.Digits.{digit, digit_or, digit_power, same_digits}
use Rattle.scope.specs.declared.Unit.{Unit}
use Rattle.scope.specs.Codes.{bit}
use Rattle.scope.specs.Sky.{cell_at, code_from}
use Rattle.scope.specs.Refusals.{Rows, offsets, unless}
use Rattle.scope.specs.Calls.{sky_answer}
use Rattle.sky.proofs.Places.{onward, told}
use Rattle.sky.proofs.Stars.{rows}

-- ---- the bits of a code, for any cells

-- bit j is 1 exactly when some star's cell is j
from_bit : (cell : ℕ → ℕ) (n j : ℕ) → digit (code_from cell n) j ≡ one_if (has j (tab cell n))
unfolding code_from cat any
from_bit cell zero j = rw zero-div
from_bit cell (suc n) j =
    digit_or (code_from cell n) (2 ^ cell n) j ∙ ap₂ max (from_bit cell n j) (digit_power (cell n) j)
    ∙ max_is_or (has j (tab cell n)) (eqb j (cell n)) ∙ ap one_if (sym (has-suc cell n j))

-- a star in a cell that has one already changes nothing
pub second-star : (cell : ℕ → ℕ) (k : ℕ) → has (cell k) (tab cell k) ≡ true → code_from cell (suc k) ≡ code_from cell k
second-star cell k h =
    same_digits _ _ (λ j. from_bit cell (suc k) j ∙ ap one_if (has-suc cell k j ∙ there j (either (eqb j (cell k)))) ∙ sym (from_bit cell k j))
  where
    there : (j : ℕ) → (eqb j (cell k) ≡ true) ⊎ (eqb j (cell k) ≡ false) → (has j (tab cell k) || eqb j (cell k)) ≡ has j (tab cell k)
    there j (inl e) = let f : has j (tab cell k) ≡ true = ap (λ (i : ℕ). has i (tab cell k)) (eqb-true j (cell k) e) ∙ h in rw f
    there j (inr e) = rw e (or-false (has j (tab cell k)))

-- ---- the bits of the sky maker's code

-- the stars' cells
abbrev pub cells : Unit → List Float → List Float → List ℕ
cells u across up = tab (cell_at u across up) (length across)

answered : (p : Result ℕ Refusal) (x c : ℕ) → onward p Err (Ok x) ≡ Ok c → c ≡ x
answered (Ok y) x c h = cc
answered (Err why) x c h = let z : ◌≡◌ {A = ℕ} 0 1 = cc in absurd (omega arith)

code_is : (u : Unit) (across up : List Float) (c : ℕ) → sky_answer u across up ≡ Ok c → c ≡ code_from (cell_at u across up) (length across)
unfolding sky_answer
code_is u across up c h =
    let all : Rows = offsets (length across) (length up) ++ cat (rows u across up) (length across) in
    answered (unless all Err (Ok 0)) _ c (sym (told all 0 Err _) ∙ h)

-- bit j of the code is 1 exactly when some star's cell is j
pub code-bit : (u : Unit) (across up : List Float) (c j : ℕ) → sky_answer u across up ≡ Ok c → j < 64
    → bit (c ∷ []) j ≡ one_if (has j (cells u across up))
unfolding bit
code-bit u across up c j h l =
    let e : j / 64 ≡ 0 = div-eq_of_lt l in
    let f : j % 64 ≡ j = mod-eq_of_lt l in
    rw (e, f, code_is u across up c h) (from_bit (cell_at u across up) (length across) j)

-- so the code says which cells have a star, and nothing else: neither the stars' order nor a second star in a cell changes it
pub same-cells : (u u' : Unit) (across up across' up' : List Float) (c c' : ℕ) → sky_answer u across up ≡ Ok c → sky_answer u' across' up' ≡ Ok c'
    → ((j : ℕ) → has j (cells u across up) ≡ has j (cells u' across' up')) → c ≡ c'
same-cells u u' across up across' up' c c' h h' e =
    code_is u across up c h ∙ same_digits _ _ (λ j. from_bit _ _ j ∙ ap one_if (e j) ∙ sym (from_bit _ _ j)) ∙ sym (code_is u' across' up' c' h')
