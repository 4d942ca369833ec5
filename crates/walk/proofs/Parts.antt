-- A table's own part of the two lists holds its starts and its ids. Assumes nothing.
use mathlib.Core.Path.{◌≡◌, refl, sym, ap, ◌∙◌}
use mathlib.Core.List.{[], ◌∷◌, ◌++◌, map, map-append}
use Prim.Native.Nat.{ℕ, zero, suc, ◌+◌, ◌-◌, ◌*◌, ◌≤◌, ◌<◌}
use native.Mathlib.Omega.{arith}
use lib.ListN.{length, get_or, take, drop, length-drop}
use lib.Seq.{get_or-take, length-take-le}
use Rattle.std.proofs.lemmas.List.{get_or-drop}
use Rattle.theory.specs.Lists.{cat, tab, between}
use Rattle.theory.proofs.Lists.{is_tab}
use Rattle.theory.proofs.Parts.{in_parts}
use Rattle.scope.specs.Shape.{m, size, starts_before}
use Rattle.scope.specs.Tables.{Index, n, start, id_at}
use Rattle.scope.proofs.Shapes.{facts, in_starts}
use Rattle.shapes.specs.Lent.{Lent}
use Rattle.shapes.specs.Parts.{own_starts, own_ids}

map-tab : {A B : Type 0} (f : A → B) (g : ℕ → A) (k : ℕ) → map f (tab g k) ≡ tab (λ i. f (g i)) k
unfolding cat
map-tab f g zero = refl
map-tab f g (suc k) = map-append f (tab g k) (g k ∷ []) ∙ ap (λ l. l ++ f (g k) ∷ []) (map-tab f g k)

module _ (x : Index) (lent : Lent x) (z : ℕ) (h : z < m x.shape) where
  -- both parts end within the lists
  pub starts_inside : starts_before x.shape z + size x.shape z + 1 ≤ length x.starts
  starts_inside = let all = lent.starts in omega (arith, in_starts _ (facts _ lent.known) z h)

  pub ids_inside : z * n x + n x ≤ length x.ids
  ids_inside = let all = lent.ids in omega (arith, in_parts z (m x.shape) (n x) h)

  pub length-own_starts : length (own_starts x z) ≡ size x.shape z + 1
  length-own_starts = length-take-le (size x.shape z + 1) _ (rw length-drop (omega (arith, starts_inside)))

  pub length-own_ids : length (own_ids x z) ≡ n x
  length-own_ids = length-take-le (n x) _ (rw length-drop (omega (arith, ids_inside)))

  -- place v holds start(v)
  pub start_is : (v : ℕ) → v ≤ size x.shape z → get_or (own_starts x z) v 0 ≡ start x z v
  unfolding start
  start_is v l = get_or-take (size x.shape z + 1) _ v 0 (omega arith) ∙ get_or-drop (starts_before x.shape z) x.starts v 0

  -- and the places from s to e hold their ids
  pub ids_are : (s e : ℕ) → s ≤ e → e ≤ n x → take (e - s) (drop s (own_ids x z)) ≡ map (id_at x z) (between s e)
  unfolding id_at
  ids_are s e le inside =
      let long : length (take (e - s) (drop s (own_ids x z))) ≡ e - s = length-take-le (e - s) _ (rw length-drop (omega (arith, length-own_ids))) in
      is_tab (λ k. get_or x.ids (z * n x + (s + k)) 0) 0 (e - s) _ long
      (λ k l. get_or-take (e - s) _ k 0 l ∙ get_or-drop s (own_ids x z) k 0 ∙ get_or-take (n x) _ (s + k) 0 (omega arith) ∙ get_or-drop (z * n x) x.ids (s + k) 0)
      ∙ sym (map-tab (id_at x z) (λ k. s + k) (e - s))
