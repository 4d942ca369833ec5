-- Hexadecimal digits. Assumes nothing.
use mathlib.Core.Path.{◌≡◌, refl, ap, sym, ◌∙◌}
use mathlib.Core.List.{List, [], ◌∷◌, ◌++◌}
use Prim.Native.Nat.{ℕ, zero, suc, ◌+◌, ◌-◌, ◌/◌, ◌%◌}
use native.Mathlib.Omega.{arith}
use lib.ListN.{length, set, length-append}
use Rattle.lines.specs.Text.{digit, hex}
use Rattle.lines.specs.Wrote.{Wrote}
use Rattle.lines.proofs.Writing.{wrote_none, wrote_byte, wrote_more, wrote_is}

pub hex-length : (k n : ℕ) → length (hex k n) ≡ k
unfolding hex
hex-length zero n = refl
hex-length (suc k) n = omega (arith, hex-length k (n / 16), length-append (hex k (n / 16)) (digit (n % 16) ∷ []))

hex-step : (k n : ℕ) → hex (suc k) n ≡ hex k (n / 16) ++ digit (n % 16) ∷ []
unfolding hex
hex-step k n = refl

pub hex-none : (l : List ℕ) (at k n : ℕ) → k ≡ 0 → Wrote l at (hex k n) l at
unfolding hex
hex-none l at k n e = rw e (wrote_none l at)

pub hex_more : (l : List ℕ) (at k n : ℕ) (l₁ : List ℕ) (p g : ℕ) → (k ≡ 0 → ⊥) → Wrote l at (hex (k - 1) (n / 16)) l₁ p
    → g ≡ digit (n % 16) → Wrote l at (hex k n) (set l₁ p g) (p + 1)
hex_more l at k n l₁ p g h w e =
    let s : k ≡ suc (k - 1) = omega arith in
    wrote_is (sym (ap (λ (j : ℕ). hex j n) s ∙ hex-step (k - 1) n ∙ ap (λ (x : ℕ). hex (k - 1) (n / 16) ++ x ∷ []) (sym e))) (wrote_more w (wrote_byte l₁ p g))
