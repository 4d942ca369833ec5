-- A number is that of its own bytes. Assumes nothing.
use mathlib.Core.Path.{◌≡◌, refl, ap, ◌∙◌}
use mathlib.Core.List.{List}
use Prim.Native.Nat.{ℕ, zero, suc, ◌+◌, ◌≤◌}
use native.Mathlib.Omega.{arith}
use lib.ListN.{take, drop}
use lib.Seq.{get_or-take, get_or-drop}
use Rattle.reading.specs.Bytes.{number_at}

number-part : (k : ℕ) (s : List ℕ) (at m j : ℕ) → j + k ≤ m → number_at k (take m (drop at s)) j ≡ number_at k s (at + j)
unfolding number_at
number-part zero s at m j h = refl
number-part (suc k) s at m j h =
    let e : at + suc j ≡ suc (at + j) = omega arith in
    rw (get_or-take m (drop at s) j 0 (omega arith), get_or-drop at s j 0, number-part k s at m (suc j) (omega arith), e)

pub own_bytes : (k : ℕ) (s : List ℕ) (at : ℕ) {own : List ℕ} → own ≡ take k (drop at s) → number_at k own 0 ≡ number_at k s at
own_bytes k s at e =
    let start : at + 0 ≡ at = omega arith in
    ap (λ (l : List ℕ). number_at k l 0) e ∙ number-part k s at k 0 (omega arith) ∙ ap (number_at k s) start
