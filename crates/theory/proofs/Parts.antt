-- The parts f 0, f 1, .. of a list, one after the other: what stands in one of them, writing them in turn, and reading them back. Assumes nothing.
use mathlib.Core.Path.{◌≡◌, refl, sym, ap, ◌∙◌}
use mathlib.Core.List.{List, [], ◌∷◌, ◌++◌, map, append_assoc, map-append}
use Prim.Native.Nat.{ℕ, zero, suc, ◌+◌, ◌-◌, ◌*◌, ◌≤◌, ◌<◌}
use native.Mathlib.Nat.{suc-mul, mul-le-mul_right}
use native.Mathlib.Omega.{arith}
use borrow.Rule.Slice.PartMut.{put_mid}
use lib.ListN.{length, get_or, take, drop, length-append, length-drop, take-append-drop}
use lib.Seq.{length-take-le, get_or-take, get_or-drop, take_at, drop_at, drop-drop, take-add}
use Rattle.theory.specs.Lists.{cat, tab, over, between}
use Rattle.theory.proofs.Sums.{sum_cong, sum_const}
use Rattle.theory.proofs.Lists.{cat-suc, cat_front, length-cat, is_tab}

-- part z of m parts, each w long, ends within them
pub in_parts : (z m w : ℕ) → z < m → z * w + w ≤ m * w
in_parts z m w h = omega (arith, suc-mul z w, mul-le-mul_right w h)

-- a part of k elements from a on has k elements
pub part_long : {A : Type 0} (a k : ℕ) (l : List A) → a + k ≤ length l → length (take k (drop a l)) ≡ k
part_long a k l h = length-take-le k (drop a l) (simp length-drop (omega arith))

module _ {A : Type 0} (f : ℕ → List A) where
  -- m parts of w elements each
  pub length-parts : (w m : ℕ) → ((z : ℕ) → z < m → length (f z) ≡ w) → length (cat f m) ≡ m * w
  length-parts w m h = length-cat f m ∙ sum_cong (λ z. length (f z)) (λ _. w) m h ∙ sum_const w m

  pub length-next : (z : ℕ) → length (cat f (suc z)) ≡ length (cat f z) + length (f z)
  length-next z = ap length (cat-suc f z) ∙ length-append (cat f z) (f z)

  -- part z stands after the parts before it
  pub cat_part : (z m : ℕ) → z < m → (t : List A) × (cat f m ≡ cat f z ++ (f z ++ t))
  cat_part z m h =
      let (t, e) = cat_front f (suc z) m h in
      (t, e ∙ ap (λ (l : List A). l ++ t) (cat-suc f z) ∙ append_assoc (cat f z) (f z) t)

  -- the first z parts are written over the front: part z comes next, as a `&mut` part of the list that begins at its place
  pub over-next : (old l part : List A) (z at k : ℕ) → l ≡ over (cat f z) old → length (cat f z) ≡ at → length (f z) ≡ k → part ≡ f z
      → put_mid at k l part ≡ over (cat f (suc z)) old
  over-next old l part z at k e place long is =
      let front : take at l ≡ cat f z = ap (take at) e ∙ take_at (cat f z) (drop (length (cat f z)) old) at place in
      let rest : drop k (drop at l) ≡ drop (length (cat f (suc z))) old =
      ap (λ (y : List A). drop k (drop at y)) e ∙ ap (drop k) (drop_at (cat f z) (drop (length (cat f z)) old) at place)
      ∙ drop-drop k (length (cat f z)) old ∙ ap (λ (n : ℕ). drop n old) (ap (λ (n : ℕ). length (cat f z) + n) (sym long) ∙ sym (length-next z)) in
      rw (front, rest, is) (sym (append_assoc (cat f z) (f z) _) ∙ ap (λ (y : List A). y ++ drop (length (cat f (suc z))) old) (sym (cat-suc f z)))

  -- the first z parts stand at the front of l, and part z comes next
  pub read_next : (l : List A) (z at k : ℕ) → take (length (cat f z)) l ≡ cat f z → length (cat f z) ≡ at → length (f z) ≡ k → take k (drop at l) ≡ f z
      → take (length (cat f (suc z))) l ≡ cat f (suc z)
  read_next l z at k e place long is =
      rw (length-next z, take-add, e, place, long, is) (sym (cat-suc f z))

  -- where all parts stand there, so does part z
  pub read_part : (l : List A) (z m at k : ℕ) → z < m → take (length (cat f m)) l ≡ cat f m → length (cat f z) ≡ at → length (f z) ≡ k → take k (drop at l) ≡ f z
  read_part l z m at k h e place long =
      let (t, whole) = cat_part z m h in
      let r : List A = drop (length (cat f m)) l in
      let split : l ≡ cat f z ++ (f z ++ (t ++ r)) =
      sym (take-append-drop (length (cat f m)) l) ∙ ap (λ (y : List A). y ++ r) (e ∙ whole) ∙ simp append_assoc in
      ap (λ (y : List A). take k (drop at y)) split ∙ ap (take k) (drop_at (cat f z) (f z ++ (t ++ r)) at place) ∙ take_at (f z) (t ++ r) k long

  pub read_at : (l : List A) (z m k : ℕ) (d : A) → z < m → k < length (f z) → take (length (cat f m)) l ≡ cat f m → get_or l (length (cat f z) + k) d ≡ get_or (f z) k d
  read_at l z m k d h lt e =
      let at : ℕ = length (cat f z) in
      sym (get_or-drop at l k d) ∙ sym (get_or-take (length (f z)) (drop at l) k d lt)
      ∙ ap (λ (y : List A). get_or y k d) (read_part l z m at (length (f z)) h e refl refl)

-- a list read place by place, from a up to e
map-tab : (g h : ℕ → ℕ) (n : ℕ) → map g (tab h n) ≡ tab (λ k. g (h k)) n
unfolding cat
map-tab g h zero = refl
map-tab g h (suc n) = map-append g (tab h n) (h n ∷ []) ∙ ap (λ (l : List ℕ). l ++ g (h n) ∷ []) (map-tab g h n)

pub map-between : (g : ℕ → ℕ) (a e : ℕ) (l : List ℕ) → e - a ≡ length l → ((k : ℕ) → k < length l → g (a + k) ≡ get_or l k 0) → map g (between a e) ≡ l
map-between g a e l long h =
    map-tab g (λ k. a + k) (e - a) ∙ sym (is_tab (λ k. g (a + k)) 0 (e - a) l (sym long) (λ k lt. sym (h k (rw long at lt))))
