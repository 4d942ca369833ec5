-- Demand 3, the count: over trusted tables the search for the k nearest opens the buckets of the blackboard, each once, and reports their number. Assumes nothing.
use Rattle.std.specs.Prelude.{Ok}
use mathlib.Core.Path.{◌≡◌, refl, sym, ap, ◌∙◌}
use mathlib.Core.Logic.{inl, inr, ⊎_elim}
use mathlib.Core.Bool.{true, ◌&&◌, and-true, and-false, cond}
use Prim.Native.Nat.{ℕ, suc, ◌+◌, ◌-◌, ◌*◌, ◌/◌, ◌%◌, ◌^◌, ◌≤◌, ◌<◌}
use native.Mathlib.Omega.{arith}
use lib.Bits.{bit_xor, xor_lt}
use lib.Count.{ones}
use lib.Dec.{ltb, leb}
use lib.ListN.{length}
use borrow.Author.Tests.{lt-ltb, le-ltb}
use Rattle.theory.specs.Lists.{sum, any, count, is}
use Rattle.theory.specs.Binomials.{L}
use Rattle.theory.proofs.Radii.{by_radius}
use Rattle.theory.proofs.Tests.{lt-or-le, one_if, one_if_positive, leb_is_ltb}
use Rattle.theory.proofs.Counting.{count_cong}
use Rattle.theory.proofs.Placing.{all, lower-all}
use Rattle.theory.proofs.Times.{times, any-times}
use Rattle.theory.proofs.Opening.{opened_once, opened-none}
use Rattle.scope.specs.Shape.{q, listed, m, first_bit, len, size}
use Rattle.scope.specs.Tables.{n}
use Rattle.scope.specs.declared.Report.{Report}
use Rattle.scope.specs.Codes.{substring}
use Rattle.scope.specs.Walk.{Question, distance_of, open_after, open_after_under, all_ones, opened, tested_count}
use Rattle.scope.specs.Search.{K, nearest_steps, within_steps}
use Rattle.scope.specs.Calls.{Asked, room, report, nearest_end, within_end, search_end}
use Rattle.scope.proofs.Shapes.{facts}
use Rattle.scope.proofs.Masks.{every_bit, plain_open_after}
use Rattle.scope.proofs.Opening.{asks, ones_under, opened_by_lem, open_after_lem, open_at, open_at_equal, open_at_under}
use Rattle.scope.proofs.Steps.{within_some}
use Rattle.scope.proofs.Codes.{substring-lt}
use Rattle.demands.specs.Neighbours.{neighbours, kth_distance}
use Rattle.demands.specs.Radii.{in_radii, differing, apart, in_radius}
use Rattle.demands.specs.Trust.{WithinCall, NearestCall}
use Rattle.demands.proofs.Sound.{steps_kth, kth_smallest}
use Rattle.demands.proofs.Trusting.{within_ready, nearest_ready}
use Rattle.demands.proofs.Within.{within_answer_lem}
use Rattle.demands.proofs.Nearest.{length-first, nearest_answer_lem}

-- bucket v of table z stands once among what the steps 0 to m·r + a open where it is in its radius, and else never
pub opened_radii : (ask : Question) → listed ask.index.shape ≡ true → (r a z v : ℕ) → a < m ask.index.shape
    → times (is z v) (opened ask (m ask.index.shape * r + a + 1)) ≡ one_if (in_radius ask r a z v)
unfolding in_radius
opened_radii ask ls r a z v ha =
    let sh = ask.index.shape in
    let sub : (z : ℕ) → asks ask z < 2 ^ len sh z = λ z. substring-lt (first_bit sh z) (len sh z) ask.query in
    let some = (facts sh ls).some_tables in
    let N = m sh * r + a + 1 in
    let step : N ≡ r * m sh + a + 1 = omega arith in
    ap (times (is z v)) (opened_by_lem ask N)
    ∙ ⊎_elim
    (λ (hz : z < m sh).
    ⊎_elim
    (λ (hv : v < size sh z).
    opened_once (m sh) (len sh) (ones_under ask) (asks ask) z v hz (sub z) hv N
    ∙ rw (lt-ltb z (m sh) hz, lt-ltb v (size sh z) hv, step) (ap one_if (by_radius (m sh) r a z (apart ask z v) ha hz)))
    (λ (far : size sh z ≤ v).
    opened-none (m sh) (len sh) (ones_under ask) (asks ask) z v some (inr (sub z, far)) N ∙ rw (le-ltb v (size sh z) far, and-false))
    (lt-or-le v (size sh z)))
    (λ (none : m sh ≤ z). opened-none (m sh) (len sh) (ones_under ask) (asks ask) z v some (inl none) N ∙ rw (le-ltb z (m sh) none))
    (lt-or-le z (m sh))

-- so it is one of them exactly where it is in its radius
pub opened_is : (ask : Question) → listed ask.index.shape ≡ true → (r a z v : ℕ) → a < m ask.index.shape
    → any (is z v) (opened ask (m ask.index.shape * r + a + 1)) ≡ in_radius ask r a z v
opened_is ask ls r a z v ha =
    any-times (is z v) (opened ask (m ask.index.shape * r + a + 1)) ∙ ap (ltb 0) (opened_radii ask ls r a z v ha) ∙ one_if_positive (in_radius ask r a z v)

-- ---- where every bit counts

module _ (ask : Question) (every : ask.mask ≡ all_ones ask.index.shape.w) (ls : listed ask.index.shape ≡ true) where
  pub plain_count : (R : ℕ) → open_after_under ask.index.shape ask.mask R ≡ open_after ask.index.shape R
  plain_count R = rw every (plain_open_after ask.index.shape R ls)

  plain_apart : (z v : ℕ) → z < m ask.index.shape → v < size ask.index.shape z → apart ask z v ≡ differing ask z v
  plain_apart z v h l =
      let sh = ask.index.shape in
      rw every (every_bit sh (facts sh ls) z h (bit_xor (asks ask z) v) (xor_lt (len sh z) (asks ask z) v (substring-lt (first_bit sh z) (len sh z) ask.query) l))

  plain_radius : (r a z v : ℕ) → in_radius ask r a z v ≡ in_radii ask.index.shape (differing ask) r a z v
  unfolding in_radius
  plain_radius r a z v =
      let sh = ask.index.shape in
      ⊎_elim
      (λ (hz : z < m sh).
      ⊎_elim
      (λ (hv : v < size sh z).
      ap (λ (d : ℕ). ltb z (m sh) && ltb v (size sh z) && cond (leb z a) (leb d r) (leb (d + 1) r)) (plain_apart z v hz hv))
      (λ (far : size sh z ≤ v). rw (le-ltb v (size sh z) far, and-false) refl)
      (lt-or-le v (size sh z)))
      (λ (none : m sh ≤ z). rw (le-ltb z (m sh) none) refl)
      (lt-or-le z (m sh))

-- ---- the k nearest, and those within r

-- D is the K-th smallest distance: fewer than K entries are nearer than D, and K or more no farther
pub kth_is : (ask : Question) (K : ℕ) → 0 < K → K ≤ n ask.index
    → (count (λ i. ltb (distance_of ask i) (kth_distance ask K)) (n ask.index) < K) × (K ≤ count (λ i. leb (distance_of ask i) (kth_distance ask K)) (n ask.index))
kth_is ask K h l =
    let (fewer, enough, _) = kth_smallest ask K h l in
    let D = kth_distance ask K in (
      rw (sym (lower-all (n ask.index) (distance_of ask) D)) fewer,
      rw (count_cong (λ i. leb (distance_of ask i) D) (λ i. ltb (distance_of ask i) (suc D) && all i) (n ask.index)
          (λ i _. leb_is_ltb (distance_of ask i) D ∙ sym (and-true _))) enough,
    )

module _ (c : Asked) (k : ℕ) (such : NearestCall c k) (some : 0 < K c.question.index k) where
  -- the search stops after step D
  pub steps_are : let ask = c.question in nearest_steps ask k ≡ kth_distance ask (K ask.index k) + 1
  steps_are =
      let ask = c.question in
      let known = nearest_ready c k such in
      steps_kth ask known.shape known.good k some

  -- and reports the blackboard's count
  pub count_is : let ask = c.question in
      let K = K ask.index k in
      (nearest_end c k).answer
      ≡ Ok (record { answers = K; opened = record { 0 = open_after_under ask.index.shape ask.mask (kth_distance ask K) }; tested = tested_count ask (nearest_steps ask k) })
  unfolding nearest_end search_end report
  count_is =
      let ask = c.question in
      let x = ask.index in
      let D = kth_distance ask (K x k) in
      let known = nearest_ready c k such in
      let number : length (opened ask (nearest_steps ask k)) ≡ open_after_under x.shape ask.mask D = ap (λ (N : ℕ). length (opened ask N)) steps_are ∙ open_after_lem ask D known.shape in
      nearest_answer_lem c k such ∙ rw (number, length-first ask k)

  -- DEMAND 3: with D = m·r + a the search opens the buckets within r bits of the query in tables 0 to a, those within r − 1 bits in the rest, of the bits under the
  -- mask, each once and no other, and reports exactly that many: a sum over the tables, each with its own length and its own bits under the mask
  pub demand_3 : let ask = c.question in
      let sh = ask.index.shape in
      (r a : ℕ) → a < m sh → kth_distance ask (K ask.index k) ≡ m sh * r + a
      → ((z v : ℕ) → times (is z v) (opened ask (nearest_steps ask k)) ≡ one_if (in_radius ask r a z v))
      × ((rep : Report) × ((nearest_end c k).answer ≡ Ok rep) × (rep.opened.0 ≡ sum (λ z. let c = ones (substring (first_bit sh z) (len sh z) ask.mask) in 2 ^ (len sh z - c) * L c (cond (leb z a) (r + 1) r)) (m sh)))
  demand_3 r a ha e =
      let ask = c.question in
      let sh = ask.index.shape in
      let known = nearest_ready c k such in
      let D : kth_distance ask (K ask.index k) ≡ r * m sh + a = omega arith in
      (λ z v. rw (steps_are, e) (opened_radii ask known.shape r a z v ha), (_, count_is, ap (open_after_under sh ask.mask) D ∙ open_at_under sh ask.mask r a ha))

  -- where every bit counts: the buckets that differ from the query's substring in r bits or less, or r − 1, and the sum without hidden bits
  module _ (every : c.question.mask ≡ all_ones c.question.index.shape.w) where
    pub demand_3_plain : let ask = c.question in
        let sh = ask.index.shape in
        (r a : ℕ) → a < m sh → kth_distance ask (K ask.index k) ≡ m sh * r + a
        → ((z v : ℕ) → times (is z v) (opened ask (nearest_steps ask k)) ≡ one_if (in_radii sh (differing ask) r a z v))
        × ((rep : Report) × ((nearest_end c k).answer ≡ Ok rep) × (rep.opened.0 ≡ sum (λ z. L (len sh z) (cond (leb z a) (r + 1) r)) (m sh)))
    demand_3_plain r a ha e =
        let ask = c.question in
        let sh = ask.index.shape in
        let known = nearest_ready c k such in
        let D : kth_distance ask (K ask.index k) ≡ r * m sh + a = omega arith in (
          λ z v. (demand_3 r a ha e).0 z v ∙ ap one_if (plain_radius ask every known.shape r a z v),
          (_, count_is, plain_count ask every known.shape _ ∙ ap (open_after sh) D ∙ open_at sh r a ha),
        )

    -- and m divides q: with s = q/m, 01's formula
    pub demand_3_equal : let ask = c.question in
        let sh = ask.index.shape in
        let s = q sh / m sh in
        (r a : ℕ) → a < m sh → q sh % m sh ≡ 0 → kth_distance ask (K ask.index k) ≡ m sh * r + a
        → (rep : Report) × ((nearest_end c k).answer ≡ Ok rep) × (rep.opened.0 ≡ (a + 1) * L s (r + 1) + (m sh - a - 1) * L s r)
    demand_3_equal r a ha whole e =
        let ask = c.question in
        let sh = ask.index.shape in
        let known = nearest_ready c k such in
        let D : kth_distance ask (K ask.index k) ≡ r * m sh + a = omega arith in
        (_, count_is, plain_count ask every known.shape _ ∙ ap (open_after sh) D ∙ open_at_equal sh r a ha whole)

-- the search within r opens what the steps 0 to r open, and reports the blackboard's count after step r
pub within_count : (c : Asked) (r : ℕ) → WithinCall c r → let ask = c.question in
    0 < n ask.index → length (neighbours ask r) ≤ room c
    → (rep : Report) × ((within_end c r).answer ≡ Ok rep) × (rep.opened.0 ≡ open_after_under ask.index.shape ask.mask r)
unfolding within_end search_end report
within_count c r such some h =
    let ask = c.question in (
      report ask (within_steps ask.index r) (neighbours ask r),
      within_answer_lem c r such ∙ rw (le-ltb (room c) (length (neighbours ask r)) h),
      ap (λ (N : ℕ). length (opened ask N)) (within_some ask.index r some) ∙ open_after_lem ask r (within_ready c r such).shape,
    )

pub within_count_plain : (c : Asked) (r : ℕ) → WithinCall c r → let ask = c.question in
    ask.mask ≡ all_ones ask.index.shape.w → 0 < n ask.index → length (neighbours ask r) ≤ room c
    → (rep : Report) × ((within_end c r).answer ≡ Ok rep) × (rep.opened.0 ≡ open_after ask.index.shape r)
within_count_plain c r such every some h =
    let (rep, listed, opened) = within_count c r such some h in (rep, listed, opened ∙ plain_count c.question every (within_ready c r such).shape r)
