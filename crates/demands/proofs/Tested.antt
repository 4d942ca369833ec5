-- Tested means what 01 says: the reported count is the number of entries that an opened bucket lists; over trusted tables, of the entries that have
-- a substring within the opened radius in some table. Assumes nothing.
use Rattle.std.specs.Prelude.{Ok, Err}
use mathlib.Core.Path.{◌≡◌, sym, ap, ◌∙◌}
use mathlib.Core.Bool.{true, ◌&&◌}
use mathlib.Core.List.{[], ◌∷◌}
use Prim.Native.Nat.{ℕ, ◌+◌, ◌*◌, ◌<◌}
use native.Mathlib.Omega.{arith}
use lib.Dec.{eqb, ltb}
use borrow.Author.Tests.{eqb-true, ltb-true}
use Rattle.theory.specs.Lists.{count, any, tab, is}
use Rattle.theory.proofs.Tests.{same_test, and_left}
use Rattle.theory.proofs.Lists.{any_one, any-cat_yes, any-cat_at}
use Rattle.theory.proofs.Counting.{count_cong}
use Rattle.theory.proofs.Opening.{any-bucket, is_own}
use Rattle.scope.specs.declared.Report.{Report}
use Rattle.scope.specs.Shape.{m, size, listed}
use Rattle.scope.specs.Tables.{n, substring_of, sound}
use Rattle.scope.specs.Walk.{Question, opened, tested}
use Rattle.scope.specs.Search.{K, nearest_steps, nearest, within_steps, within}
use Rattle.scope.specs.Refusals.{Rows, unless}
use Rattle.scope.specs.Calls.{Asked, report, nearest_answer, nearest_end, within_answer, within_end, search_end}
use Rattle.scope.proofs.Rows.{unless-none, all-clear}
use Rattle.scope.proofs.Steps.{within_some}
use Rattle.demands.specs.Neighbours.{kth_distance}
use Rattle.demands.specs.Answers.{Reported}
use Rattle.demands.specs.Radii.{in_radius, candidate}
use Rattle.demands.specs.Trust.{WithinCall, NearestCall}
use Rattle.demands.proofs.Sound.{tested-own}
use Rattle.demands.proofs.Trusting.{within_ready, nearest_ready}
use Rattle.demands.proofs.Count.{opened_is, steps_are}
use Rattle.theory.proofs.Elements.{any_more}

-- ---- any tables

listed-report : (rows : Rows) (rep rep' : Report) → unless rows Err (Ok rep) ≡ Ok rep' → rep ≡ rep'
listed-report rows rep rep' e =
    let none = all-clear Err (Ok rep) (λ f e. let z : ◌≡◌ {A = ℕ} 0 1 = cc in omega arith) rows e in
    let r = unless-none rows Err (Ok rep) none in
    cc

pub nearest_reports : (c : Asked) (k : ℕ) (rep : Report) → (nearest_end c k).answer ≡ Ok rep → Reported c.question (nearest_steps c.question k) rep
unfolding nearest_end search_end nearest_answer report tested
nearest_reports c k rep e =
    let same = listed-report _ (report c.question (nearest_steps c.question k) (nearest c.question k)) rep e in
    record { buckets = sym (ap (λ (r : Report). r.opened.0) same); entries = sym (ap (λ (r : Report). r.tested.0) same) }

pub within_reports : (c : Asked) (r : ℕ) (rep : Report) → (within_end c r).answer ≡ Ok rep → Reported c.question (within_steps c.question.index r) rep
unfolding within_end search_end within_answer report tested
within_reports c r rep e =
    let same = listed-report _ (report c.question (within_steps c.question.index r) (within c.question r)) rep e in
    record { buckets = sym (ap (λ (r : Report). r.opened.0) same); entries = sym (ap (λ (r : Report). r.tested.0) same) }

-- ---- sound tables

in_table : (ask : Question) (r a z v : ℕ) → in_radius ask r a z v ≡ true → z < m ask.index.shape
unfolding in_radius
in_table ask r a z v h = let sh = ask.index.shape in ltb-true z (m sh) (and_left (ltb z (m sh)) _ (and_left (ltb z (m sh) && ltb v (size sh z)) _ h))

-- after step m·r + a an entry is tested exactly where it has a substring within the opened radius
pub tested-candidate : (ask : Question) → listed ask.index.shape ≡ true → sound ask.index ≡ true → (r a i : ℕ) → a < m ask.index.shape → i < n ask.index
    → tested ask (m ask.index.shape * r + a + 1) i ≡ candidate ask r a i
unfolding candidate
tested-candidate ask ls s r a i ha hi = tested-own ask ls s N i hi ∙ same_test _ _ there back
  where
    N : ℕ
    N = m ask.index.shape * r + a + 1

    own : ℕ → ℕ
    own z = substring_of ask.index z i

    there : any (λ b. eqb (own b.0) b.1) (opened ask N) ≡ true → any (λ z. in_radius ask r a z (own z)) (tab (λ z. z) (m ask.index.shape)) ≡ true
    there h =
        let (b, e, one) = any-bucket (λ b. eqb (own b.0) b.1) (opened ask N) h in
        let inside : in_radius ask r a b.0 b.1 ≡ true = sym (opened_is ask ls r a b.0 b.1 ha) ∙ one in
        any-cat_yes (λ z. in_radius ask r a z (own z)) (λ z. z ∷ []) b.0 (m ask.index.shape) (in_table ask r a b.0 b.1 inside)
        (any_one _ b.0 ∙ ap (in_radius ask r a b.0) (eqb-true (own b.0) b.1 e) ∙ inside)

    back : any (λ z. in_radius ask r a z (own z)) (tab (λ z. z) (m ask.index.shape)) ≡ true → any (λ b. eqb (own b.0) b.1) (opened ask N) ≡ true
    back h =
        let (z, hz, e) = any-cat_at (λ z. in_radius ask r a z (own z)) (λ z. z ∷ []) (m ask.index.shape) h in
        any_more (is z (own z)) (λ b. eqb (own b.0) b.1) (opened ask N) (λ b o. is_own (substring_of ask.index) i z b o)
        (opened_is ask ls r a z (own z) ha ∙ sym (any_one (λ z. in_radius ask r a z (own z)) z) ∙ e)

-- and so over trusted tables, D = m·r + a being the K-th smallest distance, as many entries are tested as have one
pub nearest_tests : (c : Asked) (k : ℕ) → NearestCall c k → let ask = c.question in
    let x = ask.index in
    0 < K x k → (r a : ℕ) → a < m x.shape → kth_distance ask (K x k) ≡ m x.shape * r + a
    → (rep : Report) → (nearest_end c k).answer ≡ Ok rep → rep.tested.0 ≡ count (candidate ask r a) (n x)
unfolding tested
nearest_tests c k such some r a ha e rep listed =
    let ask = c.question in
    let known = nearest_ready c k such in
    (nearest_reports c k rep listed).entries
    ∙ ap (λ (N : ℕ). count (tested ask N) (n ask.index)) (steps_are c k such some ∙ ap (λ (D : ℕ). D + 1) e)
    ∙ count_cong (tested ask (m ask.index.shape * r + a + 1)) (candidate ask r a) (n ask.index) (λ i l. tested-candidate ask known.shape known.good r a i ha l)

pub within_tests : (c : Asked) (r : ℕ) → WithinCall c r → let ask = c.question in
    let x = ask.index in
    (r' a : ℕ) → a < m x.shape → r ≡ m x.shape * r' + a
    → (rep : Report) → (within_end c r).answer ≡ Ok rep → rep.tested.0 ≡ count (candidate ask r' a) (n x)
unfolding tested
within_tests c r such r' a ha e rep listed =
    let ask = c.question in
    let x = ask.index in
    let known = within_ready c r such in
    (within_reports c r rep listed).entries
    ∙ count_cong (tested ask (within_steps x r)) (candidate ask r' a) (n x) (λ i l.
    let steps : within_steps x r ≡ m x.shape * r' + a + 1 = within_some x r (omega arith) ∙ omega arith in
    ap (λ (N : ℕ). tested ask N i) steps ∙ tested-candidate ask known.shape known.good r' a i ha l)
