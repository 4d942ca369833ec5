-- How a statement made of equations determines the end of a call. Assumes nothing.
use mathlib.Core.Path.{◌≡◌, sym, ap, ◌∙◌}
use Prim.Native.Nat.{ℕ, zero, suc}

pub same : {A : Type 0} {x y a : A} → x ≡ a → y ≡ a → x ≡ y
same p q = p ∙ sym q

-- one equation with everything at the end, from which `end` takes the result and what stands behind each parameter
pub whole : {S E : Type 0} (end : S → E) {s t u : S} → s ≡ u → t ≡ u → end s ≡ end t
whole end p q = ap end (same p q)

-- an equation with the result, of a function that writes nothing
pub result : {Z E : Type 0} {y z a : Z} {e : E} → y ≡ a → z ≡ a → ◌≡◌ {A = Z × E} (y, e) (z, e)
result {Z = Z} {e = e} = whole (λ (z : Z). (z, e))

-- k parameters behind which nothing is written, and the rest
abbrev pub Kept : ℕ → Type 0 → Type 0
Kept zero E = E
Kept (suc k) E = Unit {0} × Kept k E

abbrev pub kept : {E : Type 0} (k : ℕ) → E → Kept k E
kept zero e = e
kept (suc k) e = (tt, kept k e)
