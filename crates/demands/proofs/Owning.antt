-- What a bucket lists, and whether it is bad, is told by the places that it owns. Assumes nothing.
use mathlib.Core.Path.{◌≡◌, refl, ap, ap₂, ◌∙◌}
use mathlib.Core.Logic.{⊎_elim}
use mathlib.Core.Bool.{Bool, true, ◌||◌}
use mathlib.Core.List.{List, [], ◌∷◌, map}
use Prim.Native.Nat.{ℕ, ◌+◌, ◌-◌, ◌*◌, ◌≤◌, ◌<◌}
use native.Mathlib.Omega.{arith}
use lib.Dec.{eqb, ltb}
use lib.ListN.{get_or}
use borrow.Author.Tests.{eq-eqb, le-ltb}
use Rattle.theory.specs.Lists.{between, any}
use Rattle.theory.proofs.Tests.{lt-or-le, or_left, or_right}
use Rattle.theory.proofs.Lists.{any_one, any-cat_yes}
use Rattle.theory.proofs.Order.{All, cat-all}
use Rattle.scope.specs.Shape.{starts_before}
use Rattle.scope.specs.Tables.{Index, n, substring_of, start, id_at, places, bucket, bad_id, bad, owns_start, owns_id}
use Rattle.demands.specs.Places.{retabled, Agree}
use Rattle.theory.proofs.Elements.{any_here, any-later, all-any-same, map_same}

-- under other tables the bucket lists the same, and is bad where it was
pub record Same (x y : Index) (b : ℕ × ℕ) : Type 0 where
  pub lists : bucket y b.0 b.1 ≡ bucket x b.0 b.1
  pub as_bad : bad y b.0 b.1 ≡ bad x b.0 b.1

-- of each of these buckets
abbrev pub AllSame : Index → (starts ids : List ℕ) → List (ℕ × ℕ) → Type 0
AllSame x starts ids l = All (Same x (retabled x starts ids)) l

module _ (x : Index) (starts ids : List ℕ) (z v : ℕ) (on-starts : (j : ℕ) → owns_start x z v j ≡ true → get_or starts j 0 ≡ get_or x.starts j 0)
    (on-ids : (j : ℕ) → owns_id x z v j ≡ true → get_or ids j 0 ≡ get_or x.ids j 0) where
  first-start : start (retabled x starts ids) z v ≡ start x z v
  unfolding start owns_start
  first-start = on-starts (starts_before x.shape z + v) (or_left _ _ (eq-eqb (starts_before x.shape z + v) (starts_before x.shape z + v) refl))

  second-start : start (retabled x starts ids) z (v + 1) ≡ start x z (v + 1)
  unfolding start owns_start
  second-start =
      let here = starts_before x.shape z + (v + 1) in
      on-starts here (or_right (eqb here (starts_before x.shape z + v)) _ (eq-eqb here (starts_before x.shape z + v + 1) (omega arith)))

  id_there : (p : ℕ) → start x z v ≤ p → p < start x z (v + 1) → id_at (retabled x starts ids) z p ≡ id_at x z p
  unfolding id_at owns_id
  id_there p l h =
      let e : p ≡ start x z v + (p - start x z v) = omega arith in
      on-ids (z * n x + p)
      (any-cat_yes (λ k. eqb (z * n x + p) (z * n x + k)) (λ k. (start x z v + k) ∷ []) (p - start x z v) (start x z (v + 1) - start x z v) (omega arith)
      (any_one _ (start x z v + (p - start x z v)) ∙ eq-eqb (z * n x + p) (z * n x + (start x z v + (p - start x z v))) (omega arith)))

  all-places : (P : ℕ → Type 0) → ((p : ℕ) → start x z v ≤ p → p < start x z (v + 1) → P p) → All P (places x z v)
  all-places P h = cat-all P (λ k. (start x z v + k) ∷ []) (start x z (v + 1) - start x z v) (λ i l. (h (start x z v + i) (omega arith) (omega arith), tt))

  places_same : places (retabled x starts ids) z v ≡ places x z v
  places_same = ap₂ between first-start second-start

  id_bad : (p : ℕ) → start x z v ≤ p → p < start x z (v + 1) → bad_id (retabled x starts ids) z v p ≡ bad_id x z v p
  unfolding bad_id substring_of
  id_bad p l h =
      ⊎_elim
      (λ (later : start x z v < p). rw (id_there p l h, first-start, id_there (p - 1) (omega arith) (omega arith)))
      (λ (at : p ≤ start x z v). rw (id_there p l h, first-start, le-ltb (start x z v) p at))
      (lt-or-le (start x z v) p)

  pub same-bucket : Same x (retabled x starts ids) (z, v)
  unfolding bad
  same-bucket = record {
    lists = ap (map (id_at (retabled x starts ids) z)) places_same ∙ map_same _ _ (places x z v) (all-places _ id_there);
    as_bad = rw (first-start, second-start)
        (ap (λ (b : Bool). ltb (start x z (v + 1)) (start x z v) || ltb (n x) (start x z (v + 1)) || b) (all-any-same _ _ (places x z v) (all-places _ id_bad)));
  }

-- so it is of each bucket of a list, where the tables agree on every place that one of them owns
pub all_same : (x : Index) (starts ids : List ℕ) (l : List (ℕ × ℕ)) → Agree x l starts ids → AllSame x starts ids l
all_same x starts ids l a = go l a.owned_starts a.owned_ids
  where
    go : (l : List (ℕ × ℕ)) → ((j : ℕ) → any (λ b. owns_start x b.0 b.1 j) l ≡ true → get_or starts j 0 ≡ get_or x.starts j 0)
        → ((j : ℕ) → any (λ b. owns_id x b.0 b.1 j) l ≡ true → get_or ids j 0 ≡ get_or x.ids j 0) → AllSame x starts ids l
    go [] s i = tt
    go (b ∷ l) s i = (
      same-bucket x starts ids b.0 b.1 (λ j o. s j (any_here _ b l o)) (λ j o. i j (any_here _ b l o)),
      go l (λ j o. s j (any-later _ b l o)) (λ j o. i j (any-later _ b l o)),
    )
