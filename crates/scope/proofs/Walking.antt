-- Laws of the walk: what one more step opens and tests, that buckets that are not bad list entries, and how many answers there are. Assumes nothing.
use mathlib.Core.Path.{◌≡◌, refl, sym, ap, ◌∙◌}
use mathlib.Core.Logic.{⊎_elim}
use mathlib.Core.Bool.{Bool, true, false, ◌&&◌, ◌||◌}
use mathlib.Core.List.{List, [], ◌∷◌, ◌++◌}
use Prim.Native.Nat.{ℕ, zero, suc, ◌+◌, ◌-◌, ◌*◌, ◌/◌, ◌%◌, ◌≤◌, ◌<◌}
use native.Mathlib.Numerals.{add-one}
use native.Mathlib.Omega.{arith}
use lib.Dec.{eqb, ltb, leb}
use lib.ListN.{length, length-append, length-map}
use borrow.Author.Tests.{lt-ltb, eqb-true, ltb-false, leb-false}
use Rattle.theory.specs.Lists.{cat, upto, count, any, has}
use Rattle.theory.proofs.Tests.{either, both_ways, or-true, or-false_left, or-false_right, leb_is_ltb}
use Rattle.theory.proofs.Lists.{cat-suc, any_append, any_one, any_none, any-map, any-cat_yes, any-cat_at}
use Rattle.theory.proofs.Counting.{count-le, count_cong, upto_cong}
use Rattle.theory.proofs.Placing.{length-ranked}
use Rattle.scope.specs.Codes.{code_of}
use Rattle.scope.specs.Shape.{q, size, m}
use Rattle.scope.specs.Tables.{Index, n, start, id_at, places, bucket, bad_id, bad}
use Rattle.scope.specs.Walk.{Question, distance_of, opens, opened, tested, near}
use Rattle.scope.specs.Search.{answers}
use Rattle.scope.proofs.Codes.{under-le}
use Rattle.scope.proofs.Opening.{ones_under}
use Rattle.scope.proofs.Shapes.{Facts, few_buckets}

-- ---- steps

module _ (ask : Question) where
  pub opened-none : opened ask 0 ≡ []
  unfolding opened cat
  opened-none = refl

  pub opened-suc : (N : ℕ) → opened ask (suc N) ≡ opened ask N ++ opens ask N
  unfolding opened
  opened-suc N = cat-suc (opens ask) N

  pub tested-none : (i : ℕ) → tested ask 0 i ≡ false
  unfolding tested
  tested-none i = rw opened-none (any_none _)

  pub tested-suc : (N i : ℕ) → tested ask (suc N) i ≡ (tested ask N i || any (λ b. has i (bucket ask.index b.0 b.1)) (opens ask N))
  unfolding tested
  tested-suc N i = rw (opened-suc N) (any_append _ (opened ask N) (opens ask N))

  -- a step opens 65,536 buckets at most
  pub opened_few : Facts ask.index.shape → (N : ℕ) → length (opened ask N) ≤ N * 65536
  unfolding opens
  opened_few f zero = rw opened-none (omega arith)
  opened_few f (suc N) =
      let a = N % m ask.index.shape in
      let t : ℕ → Bool = λ e. eqb (ones_under ask a e) (N / m ask.index.shape) in
      rw (opened-suc, length-append, length-map)
      (omega (arith, opened_few f N, count-le t (size ask.index.shape a), few_buckets ask.index.shape f a))

  -- after R + 1 steps: nearer than R + 1
  pub near_is : (R : ℕ) → near ask R ≡ upto (λ i. ltb (distance_of ask i) (suc R) && tested ask (suc R) i) (n ask.index)
  unfolding near
  near_is R =
      ap (λ (N : ℕ). upto (λ i. leb (distance_of ask i) R && tested ask N i) (n ask.index)) (add-one R)
      ∙ upto_cong _ _ (n ask.index) (λ i _. ap (λ (b : Bool). b && tested ask (suc R) i) (leb_is_ltb (distance_of ask i) R))

-- ---- what a bucket lists that is not bad

module _ (x : Index) where
  -- its starts are in order and within the table, and its ids are entries
  pub record Good (z v : ℕ) : Type 0 where
    pub order : start x z v ≤ start x z (v + 1)
    pub inside : start x z (v + 1) ≤ n x
    pub entry : (p : ℕ) → start x z v ≤ p → p < start x z (v + 1) → id_at x z p < n x

  -- a place that is passed by the test of ids
  passed : (z v p : ℕ) → any (bad_id x z v) (places x z v) ≡ false → start x z v ≤ p → p < start x z (v + 1) → bad_id x z v p ≡ false
  passed z v p none l k =
      let at : start x z v + (p - start x z v) ≡ p = omega arith in
      ⊎_elim
      (λ (e : bad_id x z v p ≡ true).
      both_ways (sym (any-cat_yes (bad_id x z v) (λ k. (start x z v + k) ∷ []) (p - start x z v) _ (omega arith) (any_one _ _ ∙ ap (bad_id x z v) at ∙ e)) ∙ none))
      (λ e. e) (either (bad_id x z v p))

  pub good : (z v : ℕ) → bad x z v ≡ false → Good z v
  unfolding bad bad_id
  good z v h =
      let a = start x z v in
      let e = start x z (v + 1) in
      let starts = or-false_left (ltb e a || ltb (n x) e) _ h in
      let ids = or-false_right (ltb e a || ltb (n x) e) _ h in
      record {
        order = ltb-false e a (or-false_left (ltb e a) _ starts);
        inside = ltb-false (n x) e (or-false_right (ltb e a) _ starts);
        entry = λ p l k. leb-false (n x) (id_at x z p) (or-false_left (leb (n x) (id_at x z p)) _ (or-false_left _ _ (passed z v p ids l k)));
      }

  pub bucket-entry : (z v i : ℕ) → bad x z v ≡ false → has i (bucket x z v) ≡ true → i < n x
  bucket-entry z v i h e =
      let (k, l, t) = any-cat_at (λ p. eqb i (id_at x z p)) (λ k. (start x z v + k) ∷ []) _ (sym (any-map (eqb i) (id_at x z) (places x z v)) ∙ e) in
      let at : i ≡ id_at x z (start x z v + k) = eqb-true i _ (sym (any_one _ _) ∙ t) in
      rw at ((good z v h).entry (start x z v + k) (omega arith) (omega arith))

  -- and so of buckets of which none is bad
  pub lists-entry : (l : List (ℕ × ℕ)) (i : ℕ) → any (λ b. bad x b.0 b.1) l ≡ false → any (λ b. has i (bucket x b.0 b.1)) l ≡ true → i < n x
  unfolding any
  lists-entry [] i h e = both_ways (sym e)
  lists-entry (b ∷ l) i h e =
      ⊎_elim (λ here. bucket-entry b.0 b.1 i (or-false_left (bad x b.0 b.1) _ h) here)
      (λ later. lists-entry l i (or-false_right (bad x b.0 b.1) _ h) later) (or-true (has i (bucket x b.0 b.1)) _ e)

-- ---- answers

pub few_answers : (ask : Question) (keep : ℕ → Bool) (top : ℕ) → length (answers ask keep top) ≤ n ask.index
few_answers ask keep top =
    omega (arith, length-ranked (n ask.index) (distance_of ask) keep (top + 1), count-le (λ i. ltb (distance_of ask i) (top + 1) && keep i) (n ask.index))

-- every entry is within q of the query: as many answers as kept entries
pub all-within : (ask : Question) (keep : ℕ → Bool) → length (answers ask keep (q ask.index.shape)) ≡ count keep (n ask.index)
all-within ask keep =
    length-ranked (n ask.index) (distance_of ask) keep (q ask.index.shape + 1)
    ∙ count_cong _ _ (n ask.index)
    (λ i _. ap (λ (b : Bool). b && keep i) (lt-ltb (distance_of ask i) (q ask.index.shape + 1) (omega (arith, under-le ask.mask (code_of ask.index.shape.w ask.index.codes i) ask.query (q ask.index.shape)))))
