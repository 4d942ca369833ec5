-- What the lab can quote: a code that stands in the catalogue is found after one bucket, and under a mask after those that differ from it in hidden bits alone; `none` is a
-- promise about every entry; the k nearest are the first of those within D, and cost the same buckets. Assumes nothing.
use Rattle.std.specs.Prelude.{Ok}
use mathlib.Core.Path.{◌≡◌, refl, sym, ap, ◌∙◌}
use mathlib.Core.Logic.{⊎_elim}
use mathlib.Core.Bool.{◌&&◌, cond}
use mathlib.Core.List.{List, [], ◌∷◌}
use Prim.Native.Nat.{ℕ, ◌+◌, ◌-◌, ◌*◌, ◌^◌, ◌<◌, zero-le}
use native.Mathlib.Nat.{eq-or-lt_of_le, mul-zero, mul-one}
use native.Mathlib.Numerals.{add-one}
use native.Mathlib.Omega.{arith}
use lib.Count.{ones}
use lib.Dec.{ltb, leb}
use lib.ListN.{length, get_or, take}
use borrow.Author.Tests.{lt-ltb, lt-leb}
use Rattle.theory.specs.Lists.{sum}
use Rattle.theory.specs.Binomials.{binomial, L}
use Rattle.theory.proofs.Sums.{sum_at}
use Rattle.theory.proofs.Counting.{count_less}
use Rattle.theory.proofs.Order.{first-near}
use Rattle.theory.proofs.Placing.{all, length-ranked}
use Rattle.scope.specs.declared.Report.{Report}
use Rattle.scope.specs.declared.Verdict.TheVariants.{None}
use Rattle.scope.specs.declared.VerdictReport.{VerdictReport}
use Rattle.scope.specs.Codes.{substring, code_of}
use Rattle.scope.specs.Shape.{q, m, first_bit, len}
use Rattle.scope.specs.Tables.{n}
use Rattle.scope.specs.Walk.{Question, all_ones, distance_of}
use Rattle.scope.specs.Search.{K, nearest_steps, within_steps}
use Rattle.scope.specs.Calls.{Asked, nearest_end, verdict_end}
use Rattle.scope.proofs.Shapes.{facts}
use Rattle.scope.proofs.Codes.{under_self}
use Rattle.scope.proofs.Masks.{all_ones-count}
use Rattle.scope.proofs.Steps.{within_some}
use Rattle.demands.specs.Neighbours.{neighbours, every_entry, kth_distance}
use Rattle.demands.specs.Trust.{NearestCall, VerdictCall}
use Rattle.demands.proofs.Sound.{length-every, kth_smallest}
use Rattle.demands.proofs.Trusting.{nearest_ready}
use Rattle.demands.proofs.Nearest.{nearest-lists}
use Rattle.demands.proofs.Count.{demand_3, steps_are}
use Rattle.demands.proofs.Verdict.{verdict_says}

-- where an entry is at distance 0, so is the nearest
kth_zero : (ask : Question) (i : ℕ) → i < n ask.index → distance_of ask i ≡ 0 → kth_distance ask 1 ≡ 0
kth_zero ask i h e =
    let D = kth_distance ask 1 in
    let (fewer, _, _) = kth_smallest ask 1 (omega arith) (omega arith) in
    ⊎_elim
    (λ (z : 0 ≡ D). sym z)
    (λ (far : 0 < D). absurd (omega (arith, fewer, count_less (λ i. ltb (distance_of ask i) D && all i) i (n ask.index) h (rw (lt-ltb (distance_of ask i) D (omega arith))))))
    (eq-or-lt_of_le zero-le)

take_one : (l : List ℕ) → 0 < length l → take 1 l ≡ get_or l 0 0 ∷ []
take_one [] h = absurd (omega arith)
take_one (a ∷ l) h = refl

-- step 0 opens the buckets of table 0 that differ from the query only in bits that do not count
pub first_buckets : (free c : ℕ → ℕ) (m : ℕ) → 0 < m → sum (λ z. 2 ^ free z * L (c z) (cond (leb z 0) (0 + 1) 0)) m ≡ 2 ^ free 0
unfolding sum binomial
first_buckets free c m h =
    sum_at (λ z. 2 ^ free z * L (c z) (cond (leb z 0) (0 + 1) 0)) 0 m (λ z _ ne. rw (lt-leb z 0 (omega arith)) (mul-zero (2 ^ free z))) h ∙ mul-one (2 ^ free 0)

-- ---- an entry at distance 0, as one that differs from the query in hidden bits alone: the nearest is at distance 0, after the buckets of step 0

pub zero_match : (c : Asked) (i : ℕ) → NearestCall c 1 → let ask = c.question in
    let sh = ask.index.shape in
    i < n ask.index → distance_of ask i ≡ 0
    → (rep : Report) × ((nearest_end c 1).answer ≡ Ok rep) × (rep.answers ≡ 1)
    × (rep.opened.0 ≡ 2 ^ (len sh 0 - ones (substring (first_bit sh 0) (len sh 0) ask.mask))) × (take 1 (nearest_end c 1).distances ≡ 0 ∷ [])
unfolding kth_distance
zero_match c i such entry zero-there =
    let ask = c.question in
    let x = ask.index in
    let sh = x.shape in
    let one : K x 1 ≡ 1 = omega arith in
    let under : ℕ → ℕ = λ z. ones (substring (first_bit sh z) (len sh z) ask.mask) in
    let D : kth_distance ask (K x 1) ≡ m sh * 0 + 0 = ap (kth_distance ask) one ∙ kth_zero ask i entry zero-there ∙ omega arith in
    let some = (facts sh (nearest_ready c 1 such).shape).some_tables in
    let (rep, listed, opened) = (demand_3 c 1 such (omega arith) 0 0 some D).1 in
    let all = nearest-lists c 1 such in
    let first : take (K x 1) (every_entry ask) ≡ get_or (every_entry ask) 0 0 ∷ [] =
    ap (λ (k : ℕ). take k (every_entry ask)) one ∙ take_one (every_entry ask) (omega (arith, length-every ask)) in
    let same : all.report ≡ rep = let l = all.listed in cc in (
      rep,
      listed,
      ap (λ (r : Report). r.answers) (sym same) ∙ all.answers ∙ ap length first,
      opened ∙ first_buckets (λ z. len sh z - under z) under (m sh) some,
      rw first at all.distances ∙ ap (λ (d : ℕ). d ∷ []) (kth_zero ask i entry zero-there),
    )

-- a query that is some entry's code, where every bit counts: one bucket
pub exact_match : (c : Asked) (i : ℕ) → NearestCall c 1 → let x = c.question.index in
    c.question.mask ≡ all_ones x.shape.w → i < n x → code_of x.shape.w x.codes i ≡ c.question.query
    → (rep : Report) × ((nearest_end c 1).answer ≡ Ok rep) × (rep.answers ≡ 1) × (rep.opened.0 ≡ 1) × (take 1 (nearest_end c 1).distances ≡ 0 ∷ [])
exact_match c i such every entry equal =
    let ask = c.question in
    let sh = ask.index.shape in
    let f = facts sh (nearest_ready c 1 such).shape in
    let (rep, listed, answers, opened, zero) = zero_match c i such entry (rw equal (under_self ask.mask (q sh) ask.query)) in
    let first : ℕ → ℕ = λ c. 2 ^ (len sh 0 - c) in
    let all : ones (substring (first_bit sh 0) (len sh 0) ask.mask) ≡ len sh 0 = ap (λ (mask : List ℕ). ones (substring (first_bit sh 0) (len sh 0) mask)) every ∙ all_ones-count sh f 0 f.some_tables in
    let none : len sh 0 - len sh 0 ≡ 0 = omega arith in
    (rep, listed, answers, opened ∙ ap first all ∙ rw none, zero)

-- ---- `none` with reach t: every entry is farther than t

pub none_is_a_promise : (ask : Question) (marks : List ℕ) (t g : ℕ) → VerdictCall ask marks t g
    → (rep : VerdictReport) → (verdict_end ask marks t g).answer ≡ Ok rep → rep.verdict ≡ None → (j : ℕ) → j < n ask.index → t < distance_of ask j
none_is_a_promise ask marks t g such rep given none =
    let (r, e, says) = verdict_says ask marks t g such in
    let same : r.verdict ≡ None = let s : r ≡ rep = cc in ap (λ (r : VerdictReport). r.verdict) s ∙ none in
    rw same at says

-- ---- the k nearest open what within D opens, and are the first K that it lists

module _ (c : Asked) (k : ℕ) (such : NearestCall c k) (some : 0 < K c.question.index k) where
  pub nearest-opens-within : let ask = c.question in nearest_steps ask k ≡ within_steps ask.index (kth_distance ask (K ask.index k))
  nearest-opens-within = steps_are c k such some ∙ sym (within_some c.question.index _ (omega arith))

  pub nearest_of-within : let ask = c.question in
      let K = K ask.index k in
      take K (every_entry ask) ≡ take K (neighbours ask (kth_distance ask K))
  unfolding neighbours
  nearest_of-within =
      let ask = c.question in
      let x = ask.index in
      let D = kth_distance ask (K x k) in
      let (_, enough, top) = kth_smallest ask (K x k) some (omega arith) in
      first-near (distance_of ask) all (n x) (D + 1) (q x.shape + 1) (K x k) (omega arith) (rw (length-ranked, add-one D) enough)
