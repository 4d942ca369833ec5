-- A loop over two slices side by side, with each pair's place: what an iteration gives, and what is left. Assumes nothing.
use Rattle.std.specs.Prelude.{Option, Some, None}
use Rattle.std.proofs.Common.{Iter}
use mathlib.Core.Path.{◌≡◌, refl, sym, ap, subst, ◌∙◌}
use mathlib.Core.Logic.{⊎_elim}
use mathlib.Core.List.{List, ◌∷◌}
use Prim.Native.Nat.{ℕ, ◌+◌, ◌≤◌, ◌<◌}
use native.Mathlib.Numerals.{add-one}
use native.Mathlib.Omega.{arith}
use denote.Ref.{Bor}
use lib.ListN.{length, drop, get_or, length-drop}
use lib.Seq.{drop-cons}
use Rattle.std.proofs.iter.Yields.{fronts}
use Rattle.std.proofs.lemmas.Iterator.{zips}
use Rattle.std.proofs.lemmas.Slice.Zip.{Zip-more, either_empty_from_Zip}
use Rattle.std.specs.Iterator.Adapters.{zip_first, zip_second, enumerate_source, enumerate_count, enumerate_steps}
use Rattle.std.specs.Slice.Iter.{iter_rest}
use Rattle.std.specs.declared.iter.Enumerate.{Enumerate}
use Rattle.std.specs.declared.iter.Zip.{Zip}

module _ {A : Type 0} where
  -- of either slice, what lies from the count on
  pub record Left (xs ys : List A) (s : Enumerate (Zip (Iter A) (Iter A))) : Type 0 where
    pub first : iter_rest (zip_first (enumerate_source s)) ≡ drop (enumerate_count s) xs
    pub second : iter_rest (zip_second (enumerate_source s)) ≡ drop (enumerate_count s) ys

  next_in : (xs : List A) (n : ℕ) (x : A) (rest : List A) (d : A) → drop n xs ≡ x ∷ rest
      → (n < length xs) × (x ≡ get_or xs n d) × (rest ≡ drop (n + 1) xs)
  next_in xs n x rest d e =
      let inside : n < length xs = omega (arith, length-drop n xs, ap length e) in
      let same = sym e ∙ drop-cons xs n d inside in
      (inside, ap (λ (l : List A). get_or l 0 d) same, ap (drop 1) same ∙ ap (λ (k : ℕ). drop k xs) (sym (add-one n)))

  pub none_gone : {xs ys : List A} {s : Enumerate (Zip (Iter A) (Iter A))} → enumerate_count s ≡ 0
      → iter_rest (zip_first (enumerate_source s)) ≡ xs → iter_rest (zip_second (enumerate_source s)) ≡ ys → Left xs ys s
  none_gone e f g = record { first = f ∙ rw e; second = g ∙ rw e }

  module _ {xs ys : List A} {s : Enumerate (Zip (Iter A) (Iter A))} (l : Left xs ys s) (t : Enumerate (Zip (Iter A) (Iter A))) {r : Option (ℕ × (Bor A × Bor A))} (h : enumerate_steps (zips fronts fronts) s r t) where
    -- an iteration gives the count, the two items there, and leaves the rest
    pub turn : (p : ℕ × (Bor A × Bor A)) (d : A) → r ≡ Some p
        → (p.0 ≡ enumerate_count s) × (p.0 < length xs) × (p.1.0.now ≡ get_or xs p.0 d) × (p.1.1.now ≡ get_or ys p.0 d)
        × (enumerate_count t ≡ p.0 + 1) × Left xs ys t
    turn p d e =
        let g = subst (λ o. enumerate_steps (zips fronts fronts) s o t) e h in
        let m = Zip-more (enumerate_source s) (enumerate_source t) (Some p.1) p.1 refl g.0 in
        let a = next_in xs (enumerate_count s) _ _ d (sym l.first ∙ m.0) in
        let b = next_in ys (enumerate_count s) _ _ d (sym l.second ∙ m.1) in
        (g.1, rw g.1 a.0, a.1 ∙ rw g.1, b.1 ∙ rw g.1, g.2 ∙ rw g.1, record { first = a.2 ∙ rw g.2; second = b.2 ∙ rw g.2 })

    -- it ends where one of the slices does
    pub finish : length xs ≡ length ys → enumerate_count s ≤ length xs → r ≡ None → enumerate_count s ≡ length xs
    finish same few e =
        let g = subst (λ o. enumerate_steps (zips fronts fronts) s o t) e h in
        ⊎_elim (λ z. omega (arith, few, length-drop (enumerate_count s) xs, ap length (sym l.first ∙ z)))
        (λ z. omega (arith, few, same, length-drop (enumerate_count s) ys, ap length (sym l.second ∙ z)))
        (either_empty_from_Zip (enumerate_source s) (enumerate_source t) None refl g.0)
