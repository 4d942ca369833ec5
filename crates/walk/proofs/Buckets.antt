-- Whether a bucket is bad, place by place. Assumes nothing.
use mathlib.Core.Path.{◌≡◌, sym, ap, ◌∙◌}
use mathlib.Core.Logic.{⊎_elim}
use mathlib.Core.Bool.{Bool, true, false, not, ◌||◌, cond}
use mathlib.Core.List.{List, [], ◌∷◌}
use Prim.Native.Nat.{ℕ, ◌+◌, ◌-◌, ◌≤◌, ◌<◌}
use native.Mathlib.Nat.{le_refl}
use native.Mathlib.Numerals.{add-one}
use native.Mathlib.Omega.{arith}
use lib.Dec.{eqb, ltb, leb}
use lib.ListN.{length, get_or}
use borrow.Author.Tests.{lt-ltb, le-ltb}
use Rattle.std.proofs.lemmas.List.{get_or-map, length-map}
use Rattle.theory.specs.Lists.{any, between}
use Rattle.theory.proofs.Tests.{or_swap, or_right, lt-or-le, leb_is_ltb}
use Rattle.theory.proofs.Lists.{any_append, any_one, any_none, any-cat_yes, between-suc, between_none, length-tab, get_d_tab}
use Rattle.scope.specs.Tables.{Index, n, substring_of, start, id_at, bad_id, bad, places, bucket}

module _ (x : Index) (z v : ℕ) where
  -- the least id allowed at place p: one more than the id before it in the bucket, 0 at the first
  abbrev pub least : ℕ → ℕ
  least p = cond (ltb (start x z v) p) (id_at x z (p - 1) + 1) 0

  -- the test of one id
  pub bad_id_is : (p : ℕ) → (leb (n x) (id_at x z p) || ltb (id_at x z p) (least p) || not (eqb (substring_of x z (id_at x z p)) v)) ≡ bad_id x z v p
  unfolding bad_id
  bad_id_is p =
      or_swap (leb (n x) (id_at x z p)) (ltb (id_at x z p) (least p)) _
      ∙ ap (λ (b : Bool). leb (n x) (id_at x z p) || not (eqb (substring_of x z (id_at x z p)) v) || b)
      (⊎_elim
      (λ (l : start x z v < p). rw (lt-ltb (start x z v) p l, add-one (id_at x z (p - 1))) (sym (leb_is_ltb (id_at x z p) (id_at x z (p - 1)))))
      (λ (g : p ≤ start x z v). rw (le-ltb (start x z v) p g) (le-ltb (id_at x z p) 0 (omega arith)))
      (lt-or-le (start x z v) p))

  pub bad_order : start x z (v + 1) < start x z v → bad x z v ≡ true
  unfolding bad
  bad_order h = rw (lt-ltb (start x z (v + 1)) (start x z v) h)

  pub bad-over : start x z v ≤ start x z (v + 1) → n x < start x z (v + 1) → bad x z v ≡ true
  unfolding bad
  bad-over h l = rw (le-ltb (start x z (v + 1)) (start x z v) h, lt-ltb (n x) (start x z (v + 1)) l)

  -- the places before p are passed
  pub record Passed (p low : ℕ) : Type 0 where
    pub from : start x z v ≤ p
    pub to : p ≤ start x z (v + 1)
    pub low_is : low ≡ least p
    pub none : any (bad_id x z v) (between (start x z v) p) ≡ false

  pub passed_none : start x z v ≤ start x z (v + 1) → Passed (start x z v) 0
  passed_none h =
      record {
        from = le_refl _;
        to = h;
        low_is = rw (le-ltb (start x z v) (start x z v) (le_refl _));
        none = ap (any (bad_id x z v)) (between_none _ _ (le_refl _)) ∙ any_none _;
      }

  pub passed_more : (p low : ℕ) → Passed p low → p < start x z (v + 1) → bad_id x z v p ≡ false → Passed (p + 1) (id_at x z p + 1)
  passed_more p low h l e =
      let from = h.from in
      record {
        from = omega arith;
        to = omega arith;
        low_is = let same : p + 1 - 1 ≡ p = omega arith in rw (lt-ltb (start x z v) (p + 1) (omega arith), same);
        none =
            rw (add-one p)
            (ap (any (bad_id x z v)) (between-suc _ p h.from) ∙ any_append _ (between (start x z v) p) (p ∷ []) ∙ rw (h.none, any_one) e);
      }

  module _ (p low : ℕ) (h : Passed p low) where
    -- the code's test of the id at p
    pub test_is : (t : Bool) → t ≡ (leb (n x) (id_at x z p) || ltb (id_at x z p) low || not (eqb (substring_of x z (id_at x z p)) v)) → bad_id x z v p ≡ t
    test_is t e = sym (e ∙ rw h.low_is (bad_id_is p))

    pub bad_here : p < start x z (v + 1) → bad_id x z v p ≡ true → bad x z v ≡ true
    unfolding bad
    bad_here l e =
        let from = h.from in
        let at : start x z v + (p - start x z v) ≡ p = omega arith in
        or_right (ltb (start x z (v + 1)) (start x z v) || ltb (n x) (start x z (v + 1))) _ (any-cat_yes (bad_id x z v) (λ k. (start x z v + k) ∷ []) (p - start x z v) (start x z (v + 1) - start x z v) (omega arith) (any_one _ _ ∙ ap (bad_id x z v) at ∙ e))

    pub bad-none : start x z (v + 1) ≤ p → start x z (v + 1) ≤ n x → bad x z v ≡ false
    unfolding bad
    bad-none l k =
        let from = h.from in
        let end : start x z (v + 1) ≡ p = let to = h.to in omega arith in
        rw (le-ltb (start x z (v + 1)) (start x z v) (omega arith), le-ltb (n x) (start x z (v + 1)) k, end) h.none

-- ---- what bucket v lists, one after the other

module _ (x : Index) (z v : ℕ) (ids : List ℕ) (are : ids ≡ bucket x z v) where
  pub long : length ids ≡ start x z (v + 1) - start x z v
  long = ap length are ∙ length-map (places x z v) (id_at x z) ∙ length-tab (λ k. start x z v + k) (start x z (v + 1) - start x z v)

  module _ (k : ℕ) (h : k < length ids) where
    pub place : start x z v + k < start x z (v + 1)
    place = omega (arith, long)

    pub id_is : get_or ids k 0 ≡ id_at x z (start x z v + k)
    id_is =
        let width = start x z (v + 1) - start x z v in
        let l : k < width = omega (arith, long) in
        let l' : k < length (places x z v) = omega (arith, length-tab (λ k. start x z v + k) width) in
        rw are (get_or-map (id_at x z) (places x z v) k 0 0 l' ∙ ap (id_at x z) (get_d_tab (λ k. start x z v + k) 0 width k l))
