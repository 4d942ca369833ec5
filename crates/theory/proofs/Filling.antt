-- A loop that writes f 0, f 1, .. into a list, one place after the other: `over (tab f i) old` is the list when i places are written. Assumes nothing.
use mathlib.Core.Path.{◌≡◌, refl, sym, ap, ◌∙◌}
use mathlib.Core.List.{List, [], ◌∷◌, ◌++◌, append_assoc, append-nil}
use Prim.Native.Nat.{ℕ, suc, ◌+◌, ◌-◌, ◌≤◌, ◌<◌}
use native.Mathlib.Numerals.{add-one}
use native.Mathlib.Omega.{arith}
use lib.ListN.{length, get_or, drop, set, replicate}
use lib.Seq.{drop-cons, drop-length, set_at, get_or-drop, get_or-append-add}
use Rattle.std.proofs.lemmas.List.{length-replicate, get_or-replicate}
use Rattle.theory.specs.Lists.{cat, tab, over}
use Rattle.theory.proofs.Lists.{is_tab, tab-suc, length-tab}

module _ {A : Type 0} (f : ℕ → A) (old : List A) where
  pub over-tab : (i : ℕ) → over (tab f i) old ≡ tab f i ++ drop i old
  over-tab i = ap (λ (k : ℕ). tab f i ++ drop k old) (length-tab f i)

  pub fill_none : over (tab f 0) old ≡ old
  unfolding cat
  fill_none = refl

  pub fill-next : (i : ℕ) → i < length old → set (over (tab f i) old) i (f i) ≡ over (tab f (i + 1)) old
  fill-next i h =
      let now : over (tab f i) old ≡ tab f i ++ get_or old i (f i) ∷ drop (suc i) old =
      over-tab i ∙ ap (λ (l : List A). tab f i ++ l) (drop-cons old i (f i) h) in
      ap (λ (l : List A). set l i (f i)) now
      ∙ set_at (tab f i) (get_or old i (f i)) (drop (suc i) old) (f i) i (length-tab f i)
      ∙ sym (rw (add-one i) (over-tab (suc i) ∙ ap (λ (l : List A). l ++ drop (suc i) old) (tab-suc f i) ∙ append_assoc (tab f i) (f i ∷ []) (drop (suc i) old)))

  pub fill-all : over (tab f (length old)) old ≡ tab f (length old)
  fill-all = over-tab (length old) ∙ rw drop-length (append-nil (tab f (length old)))

  -- what is not yet written stands as it did
  pub fill_left : (i v : ℕ) (d : A) → i ≤ v → get_or (over (tab f i) old) v d ≡ get_or old v d
  fill_left i v d h =
      let at : v ≡ length (tab f i) + (v - i) = omega (arith, length-tab f i) in
      let back : length (tab f i) + (v - i) ≡ v = sym at in
      ap (λ (k : ℕ). get_or (over (tab f i) old) k d) at
      ∙ get_or-append-add (tab f i) (drop (length (tab f i)) old) (v - i) d
      ∙ get_or-drop (length (tab f i)) old (v - i) d
      ∙ ap (λ (k : ℕ). get_or old k d) back

-- k zeros
pub zeros : (k : ℕ) → replicate {A = ℕ} k 0 ≡ tab (λ _. 0) k
zeros k = is_tab (λ _. 0) 0 k (replicate {A = ℕ} k 0) (length-replicate {A = ℕ} k 0) (λ i h. get_or-replicate k i 0 0 h)
