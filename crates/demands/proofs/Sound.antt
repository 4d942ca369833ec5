-- Over sound tables: no step meets a bad bucket, an entry is tested when one of the opened buckets is its own, and after step R every entry
-- of distance R or less is tested; so the searches list what a plain scan lists, and the search for the k nearest stops after step D. Assumes nothing.
use mathlib.Core.Path.{◌≡◌, refl, sym, ap, ◌∙◌}
use mathlib.Core.Logic.{inl, inr, ⊎_elim}
use mathlib.Core.Bool.{true, false, ◌&&◌}
use Prim.Native.Nat.{ℕ, suc, ◌+◌, ◌-◌, ◌/◌, ◌%◌, ◌≤◌, ◌<◌, zero-le}
use native.Mathlib.Nat.{mod-lt, eq-or-lt_of_le}
use native.Mathlib.Numerals.{add-one}
use native.Mathlib.Omega.{arith}
use lib.Bits.{bit_xor, xor_lt}
use lib.Dec.{eqb, ltb, leb}
use lib.ListN.{length, get_or, take}
use borrow.Author.Tests.{ne_eqb, lt-ltb, le-ltb, le-leb, lt-leb}
use Rattle.theory.specs.Lists.{upto, any, has, is}
use Rattle.theory.proofs.Tests.{lt-or-le}
use Rattle.theory.proofs.Counting.{count_cong, has-upto}
use Rattle.theory.proofs.Times.{any-times}
use Rattle.theory.proofs.Order.{All, all_imp, cat-all, upto_all, ranked_cong, first-ranked}
use Rattle.theory.proofs.Placing.{all, lower, lower_mono, lower_full, length-ranked, Here, here, place_of, place-below}
use Rattle.theory.proofs.Opening.{is_own, found}
use Rattle.scope.specs.Codes.{code_of}
use Rattle.scope.specs.Shape.{q, m, listed, first_bit, len, size}
use Rattle.scope.specs.Tables.{n, substring_of, bad, sound}
use Rattle.scope.specs.Walk.{Question, distance_of, opens, opened, tested, near}
use Rattle.scope.specs.Search.{K, nearest_steps, nearest, within_steps, within}
use Rattle.scope.proofs.Shapes.{facts}
use Rattle.scope.proofs.Bucketing.{substring_small, bucket_is, not-bad}
use Rattle.scope.proofs.Opening.{asks, ones_under, opened_by_lem}
use Rattle.scope.proofs.Steps.{enough, until_at, steps_some}
use Rattle.scope.proofs.Codes.{substring-lt, under-tables, under-le, under_sym}
use Rattle.demands.specs.Neighbours.{neighbours, every_entry, kth_distance}
use Rattle.theory.proofs.Elements.{any_more, all-any-false, all-any-same, all_map}

module _ (ask : Question) (ls : listed ask.index.shape ≡ true) where
  -- the opened buckets are the tables' own
  pub opened_in : (N : ℕ) → All (λ b. (b.0 < m ask.index.shape) × (b.1 < size ask.index.shape b.0)) (opened ask N)
  unfolding opened opens
  opened_in N =
      let sh = ask.index.shape in
      cat-all _ (opens ask) N (λ R _.
      let a = R % m sh in
      all_map _ (λ e. (a, bit_xor (asks ask a) e)) (upto (λ e. eqb (ones_under ask a e) (R / m sh)) (size sh a))
      (upto_all _ (λ e. eqb (ones_under ask a e) (R / m sh)) (size sh a)
      (λ e l _. (mod-lt R (facts sh ls).some_tables, xor_lt (len sh a) (asks ask a) e (substring-lt (first_bit sh a) (len sh a) ask.query) l))))

module _ (ask : Question) (ls : listed ask.index.shape ≡ true) (s : sound ask.index ≡ true) where
  pub none-bad : (N : ℕ) → any (λ b. bad ask.index b.0 b.1) (opened ask N) ≡ false
  none-bad N =
      let f = facts ask.index.shape ls in
      all-any-false _ (opened ask N) (all_imp _ _ (opened ask N) (λ b l. not-bad ask.index f s b.0 l.0 b.1 l.1) (opened_in ask ls N))

  -- tested: one of the opened buckets is the entry's own
  pub tested-own : (N i : ℕ) → i < n ask.index → tested ask N i ≡ any (λ b. eqb (substring_of ask.index b.0 i) b.1) (opened ask N)
  unfolding tested
  tested-own N i h =
      let x = ask.index in
      let f = facts x.shape ls in
      all-any-same _ _ (opened ask N)
      (all_imp _ _ (opened ask N)
      (λ b l. ap (has i) (bucket_is x f s b.0 l.0 b.1 l.1) ∙ has-upto (λ i. eqb (substring_of x b.0 i) b.1) i (n x) ∙ rw (lt-ltb i (n x) h))
      (opened_in ask ls N))

  -- after step R every entry of distance R or less is tested
  pub near-tested : (R i : ℕ) → i < n ask.index → distance_of ask i ≤ R → tested ask (suc R) i ≡ true
  unfolding substring_of
  near-tested R i h l =
      let x = ask.index in
      let sh = x.shape in
      let code = code_of sh.w x.codes i in
      let (z, hz, once) = found (m sh) (len sh) (ones_under ask) (asks ask) (λ z. substring_of x z i) R (facts sh ls).some_tables
      (λ z _. (substring-lt (first_bit sh z) (len sh z) ask.query, substring_small x z i))
      (omega (arith, under_sym ask.mask ask.query code (q sh), under-tables sh ls ask.mask ask.query code)) in
      tested-own (suc R) i h
      ∙ any_more (is z (substring_of x z i)) _ (opened ask (suc R))
      (is_own (substring_of x) i z)
      (any-times (is z (substring_of x z i)) (opened ask (suc R)) ∙ rw (opened_by_lem ask (suc R), once) (lt-ltb 0 1 (omega arith)))

  -- within r lists what the scan lists
  pub within_scan : (r : ℕ) → within ask r ≡ neighbours ask r
  unfolding within within_steps neighbours
  within_scan r =
      ranked_cong (distance_of ask) (tested ask (within_steps ask.index r)) all (n ask.index) (r + 1)
      (λ i h l. rw (ne_eqb (n ask.index) 0 (omega arith), add-one r) (near-tested r i h (omega arith)))

  -- after step R, as many are near as the scan lists
  near_scan : (R : ℕ) → length (near ask R) ≡ lower (distance_of ask) all (n ask.index) (suc R)
  unfolding near
  near_scan R =
      count_cong (λ i. leb (distance_of ask i) R && tested ask (R + 1) i) (λ i. ltb (distance_of ask i) (suc R) && all i) (n ask.index) (λ i h.
      ⊎_elim
      (λ (l : distance_of ask i ≤ R). rw (add-one R, le-leb (distance_of ask i) R l, near-tested R i h l, lt-ltb (distance_of ask i) (suc R) (omega arith)))
      (λ (g : R < distance_of ask i). rw (lt-leb (distance_of ask i) R g, le-ltb (distance_of ask i) (suc R) g))
      (⊎_elim inr inl (lt-or-le R (distance_of ask i))))

module _ (ask : Question) where
  within-q : (i : ℕ) → i < n ask.index → distance_of ask i < q ask.index.shape + 1
  within-q i _ = let sh = ask.index.shape in omega (arith, under-le ask.mask (code_of sh.w ask.index.codes i) ask.query (q sh))

  -- the scan lists all n entries
  pub length-every : length (every_entry ask) ≡ n ask.index
  unfolding neighbours
  length-every =
      let top = q ask.index.shape + 1 in
      length-ranked (n ask.index) (distance_of ask) all top ∙ lower_full (n ask.index) (distance_of ask) top within-q

  -- D, the K-th smallest distance: fewer than K entries are nearer, and K are as near
  pub kth_smallest : (K : ℕ) → 0 < K → K ≤ n ask.index
      → (lower (distance_of ask) all (n ask.index) (kth_distance ask K) < K)
      × (K ≤ lower (distance_of ask) all (n ask.index) (suc (kth_distance ask K)))
      × (kth_distance ask K ≤ q ask.index.shape)
  unfolding kth_distance neighbours place_of
  kth_smallest K h l =
      let top = q ask.index.shape + 1 in
      let e : Here (n ask.index) (distance_of ask) all top (K - 1) (get_or (every_entry ask) (K - 1) 0)
      = here (n ask.index) (distance_of ask) all top (K - 1) (rw (lower_full (n ask.index) (distance_of ask) top within-q) (omega arith)) in
      (omega (arith, e.place), omega (arith, e.place, place-below (n ask.index) (distance_of ask) all (get_or (every_entry ask) (K - 1) 0) e.entry refl), omega (arith, e.low))

module _ (ask : Question) (ls : listed ask.index.shape ≡ true) (s : sound ask.index ≡ true) (k : ℕ) where
  -- the search for the k nearest stops after step D
  pub steps_kth : 0 < K ask.index k → nearest_steps ask k ≡ kth_distance ask (K ask.index k) + 1
  steps_kth h =
      let x = ask.index in
      let D = kth_distance ask (K x k) in
      let (fewer, many, top) = kth_smallest ask (K x k) h (omega arith) in
      steps_some ask k h ∙ until_at ask (enough ask k) D top
      (λ j l. lt-leb (K x k) (length (near ask j)) (omega (arith, near_scan ask ls s j, lower_mono (n x) (distance_of ask) all (suc j) D l)))
      (le-leb (K x k) (length (near ask D)) (omega (arith, near_scan ask ls s D)))

  -- and lists the first K of the scan
  pub nearest_scan : nearest ask k ≡ take (K ask.index k) (every_entry ask)
  unfolding nearest neighbours
  nearest_scan =
      let x = ask.index in
      let top = q x.shape + 1 in
      ⊎_elim
      (λ (none : 0 ≡ K x k). rw (sym none) refl)
      (λ (some : 0 < K x k).
      let D = kth_distance ask (K x k) in
      let (fewer, enough, most) = kth_smallest ask (K x k) some (omega arith) in
      first-ranked (distance_of ask) (tested ask (nearest_steps ask k)) all (n x) (suc D) top (K x k) (omega arith)
      (λ i h l. rw (steps_kth some, add-one D) (near-tested ask ls s D i h (omega arith)))
      (rw length-ranked enough))
      (eq-or-lt_of_le zero-le)
