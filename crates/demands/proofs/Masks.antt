-- L6: a mask of all ones gives the search without one, every call whole; under a mask of zeros every distance is 0, and the k nearest open all of table 0 and stop. Assumes nothing.
use Rattle.std.specs.Prelude.{Ok, Err, Result}
use mathlib.Core.Path.{◌≡◌, refl, ap, ◌∙◌}
use mathlib.Core.Logic.{⊎_elim}
use mathlib.Core.Bool.{true, false, ◌&&◌, and-true, and-false}
use mathlib.Core.List.{List, [], ◌∷◌}
use Prim.Native.Nat.{ℕ, ◌+◌, ◌-◌, ◌*◌, ◌/◌, ◌^◌, ◌<◌, zero-le}
use native.Mathlib.Nat.{mul-zero, eq-or-lt_of_le}
use native.Mathlib.Omega.{arith}
use lib.Bits.{differ, and_zero_r}
use lib.Count.{ones}
use lib.Dec.{eqb, ltb}
use lib.ListN.{length, get_or}
use borrow.Author.Tests.{eq-eqb, ne_eqb, lt-ltb, le-leb, lt-leb}
use Rattle.theory.specs.Lists.{is}
use Rattle.theory.proofs.Lists.{get_d_tab}
use Rattle.theory.proofs.Sums.{sum-zero}
use Rattle.theory.proofs.Tests.{either, one_if}
use Rattle.theory.proofs.Times.{times}
use Rattle.theory.proofs.Under.{no_ones}
use Rattle.scope.specs.declared.Opened.{Opened}
use Rattle.scope.specs.declared.Refusal.{Refusal}
use Rattle.scope.specs.declared.Report.{Report}
use Rattle.scope.specs.declared.Shape.{Shape}
use Rattle.scope.specs.Codes.{bit, substring, distance_under, code_of}
use Rattle.scope.specs.Shape.{q, listed, m, first_bit, len, size}
use Rattle.scope.specs.Tables.{Index}
use Rattle.scope.specs.Walk.{Question, question, masked, all_ones, distance_of, opened}
use Rattle.scope.specs.Search.{K, nearest_steps}
use Rattle.scope.specs.Refusals.{unless, above}
use Rattle.scope.specs.Calls.{Asked, asked, nearest_end, within_end, verdict_end, blackboard_answer, masked_blackboard_answer}
use Rattle.scope.proofs.Shapes.{facts, in_code}
use Rattle.scope.proofs.Masks.{all_ones-long, plain_open_after}
use Rattle.demands.specs.Masks.{all_zeros}
use Rattle.demands.specs.Neighbours.{kth_distance}
use Rattle.demands.specs.Radii.{apart, in_radius}
use Rattle.demands.specs.Trust.{NearestCall}
use Rattle.demands.proofs.Trusting.{nearest_ready}
use Rattle.demands.proofs.Count.{demand_3, steps_are}
use Rattle.demands.proofs.Corollaries.{first_buckets}

-- ---- all ones: each call ends as the one without a mask, refusals and lists too

module _ (x : Index) (query mask : List ℕ) (every : mask ≡ all_ones x.shape.w) where
  pub all_ones-nearest : (marks entries distances : List ℕ) (k : ℕ)
      → nearest_end (asked (masked x query mask) marks entries distances) k ≡ nearest_end (asked (question x query) marks entries distances) k
  all_ones-nearest marks entries distances k = rw every refl

  pub all_ones-within : (marks entries distances : List ℕ) (r : ℕ)
      → within_end (asked (masked x query mask) marks entries distances) r ≡ within_end (asked (question x query) marks entries distances) r
  all_ones-within marks entries distances r = rw every refl

  pub all_ones-verdict : (marks : List ℕ) (t g : ℕ) → verdict_end (masked x query mask) marks t g ≡ verdict_end (question x query) marks t g
  all_ones-verdict marks t g = rw every refl

pub all_ones-blackboard : (sh : Shape) (mask : List ℕ) (R : ℕ) → mask ≡ all_ones sh.w → masked_blackboard_answer sh mask R ≡ blackboard_answer sh R
unfolding masked_blackboard_answer blackboard_answer unless
all_ones-blackboard sh mask R every =
    ⊎_elim
    (λ (ls : listed sh ≡ true).
    let count : ◌≡◌ {A = Result Opened Refusal} _ _ = ap (λ (o : ℕ). Ok (record { 0 = o })) (plain_open_after sh R ls) in
    rw (every, ls, eq-eqb (length (all_ones sh.w)) sh.w (all_ones-long sh.w)) (ap (unless (above sh (R ∷ [])) Err) count))
    (λ (no : listed sh ≡ false). rw no) (either (listed sh))

-- ---- zeros

module _ (ask : Question) (hidden : ask.mask ≡ all_zeros ask.index.shape.w) where
  no_bit : (j : ℕ) → j < q ask.index.shape → bit ask.mask j ≡ 0
  unfolding bit
  no_bit j h =
      let w = ask.index.shape.w in
      let none : get_or (all_zeros w) (j / 64) 0 ≡ 0 = get_d_tab {A = ℕ} (λ _. 0) 0 w (j / 64) (omega arith) in
      rw (hidden, none) (omega arith)

  pub zeros-distance : (i : ℕ) → distance_of ask i ≡ 0
  unfolding distance_under
  zeros-distance i =
      let code = code_of ask.index.shape.w ask.index.codes i in
      sum-zero (λ j. differ (bit code j) (bit ask.query j) * bit ask.mask j) (q ask.index.shape)
      (λ j l. ap (λ (b : ℕ). differ (bit code j) (bit ask.query j) * b) (no_bit j l) ∙ mul-zero _)

  module _ (ls : listed ask.index.shape ≡ true) (z : ℕ) (h : z < m ask.index.shape) where
    no_under : let sh = ask.index.shape in substring (first_bit sh z) (len sh z) ask.mask ≡ 0
    unfolding substring
    no_under =
        let sh = ask.index.shape in
        let inside = in_code sh (facts sh ls) z h in
        sum-zero (λ i. bit ask.mask (first_bit sh z + i) * 2 ^ i) (len sh z) (λ i l. ap (λ (b : ℕ). b * 2 ^ i) (no_bit (first_bit sh z + i) (omega arith)) ∙ omega arith)

    no_apart : (v : ℕ) → apart ask z v ≡ 0
    no_apart v = rw (no_under, and_zero_r) no_ones

  -- within no bit of the query is every bucket of table 0, and no other
  all_in : listed ask.index.shape ≡ true → (z v : ℕ) → in_radius ask 0 0 z v ≡ (eqb z 0 && ltb v (size ask.index.shape 0))
  unfolding in_radius
  all_in ls z v =
      let sh = ask.index.shape in
      let some = (facts sh ls).some_tables in
      ⊎_elim
      (λ (e : 0 ≡ z). rw (← e, lt-ltb 0 (m sh) some, no_apart ls 0 some v, le-leb 0 0 (omega arith), eq-eqb 0 0 refl) (and-true (ltb v (size sh 0))))
      (λ (later : 0 < z). rw (lt-leb z 0 later, lt-leb (apart ask z v + 1) 0 (omega arith), ne_eqb z 0 (omega arith), and-false) refl)
      (eq-or-lt_of_le zero-le)

-- over trusted tables the k nearest open all of table 0, each bucket once and no other, and stop
module _ (c : Asked) (k : ℕ) (such : NearestCall c k) (some : 0 < K c.question.index k) (hidden : c.question.mask ≡ all_zeros c.question.index.shape.w) where
  no_distance : let ask = c.question in kth_distance ask (K ask.index k) ≡ 0
  unfolding kth_distance
  no_distance = zeros-distance c.question hidden _

  pub zeros-nearest : let ask = c.question in
      let sh = ask.index.shape in
      (nearest_steps ask k ≡ 1) × ((z v : ℕ) → times (is z v) (opened ask (nearest_steps ask k)) ≡ one_if (eqb z 0 && ltb v (size sh 0)))
      × ((rep : Report) × ((nearest_end c k).answer ≡ Ok rep) × (rep.opened.0 ≡ size sh 0))
  zeros-nearest =
      let ask = c.question in
      let sh = ask.index.shape in
      let ls = (nearest_ready c k such).shape in
      let tables = (facts sh ls).some_tables in
      let under : ℕ → ℕ = λ z. ones (substring (first_bit sh z) (len sh z) ask.mask) in
      let (buckets, report) = demand_3 c k such some 0 0 tables (no_distance ∙ omega arith) in
      let (rep, listed, opened) = report in
      let free : len sh 0 - under 0 ≡ len sh 0 = rw (no_under ask hidden ls 0 tables, no_ones) (omega arith) in (
        steps_are c k such some ∙ ap (λ (D : ℕ). D + 1) no_distance,
        λ z v. buckets z v ∙ ap one_if (all_in ask hidden ls z v),
        (rep, listed, opened ∙ first_buckets (λ z. len sh z - under z) under (m sh) tables ∙ ap (λ (e : ℕ). 2 ^ e) free),
      )
