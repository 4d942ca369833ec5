-- A walk under other tables that agree on the places of the buckets it opens: the same steps, or the same bad bucket. Assumes nothing.
use mathlib.Core.Path.{◌≡◌, refl, sym, ap}
use mathlib.Core.Logic.{◌⊎◌, inl, inr, ⊎_elim}
use mathlib.Core.Bool.{Bool, true, false, ◌&&◌}
use mathlib.Core.List.{List, [], ◌∷◌, ◌++◌}
use Prim.Native.Nat.{ℕ, zero, suc, ◌+◌, ◌<◌, zero-le}
use native.Mathlib.Nat.{le_refl, eq-or-lt_of_le}
use native.Mathlib.Omega.{arith}
use lib.Dec.{leb}
use Rattle.theory.specs.Lists.{cat, any, has}
use Rattle.theory.proofs.Tests.{either, both_ways, or-false_left, or-false_right}
use Rattle.theory.proofs.Counting.{upto_cong}
use Rattle.theory.proofs.Order.{All, all_imp}
use Rattle.scope.specs.declared.Refusal.{Refusal}
use Rattle.scope.specs.Shape.{q}
use Rattle.scope.specs.Tables.{Index, n, bad}
use Rattle.scope.specs.Walk.{Question, distance_of, star_of, opens, opened, tested, near}
use Rattle.scope.specs.Search.{K, steps_until, nearest_steps}
use Rattle.scope.specs.Verdict.{two_stars, verdict_steps}
use Rattle.scope.specs.Refusals.{met, unless}
use Rattle.theory.proofs.Lists.{first-same, first-later}
use Rattle.scope.proofs.Steps.{opened_front, enough, steps_none, steps_some, verdict-none, verdict_some}
use Rattle.demands.specs.Places.{reached, reasked, Agree}
use Rattle.demands.proofs.Owning.{Same, AllSame, all_same}
use Rattle.theory.proofs.Elements.{all-any-same, all_front}

-- one of these buckets is bad
abbrev pub one_bad : Index → List (ℕ × ℕ) → Bool
one_bad x l = any (λ b. bad x b.0 b.1) l

-- ---- the buckets reached

module _ (x : Index) where
  -- where none is bad, all are; where one of the first is, no later one; and where none of the first is, all of those and the later ones' reached
  pub reached-all : (l : List (ℕ × ℕ)) → one_bad x l ≡ false → reached x l ≡ l
  unfolding reached any
  reached-all [] h = refl
  reached-all (b ∷ l) h =
      rw (or-false_left (bad x b.0 b.1) (one_bad x l) h) (ap (λ (k : List (ℕ × ℕ)). b ∷ k) (reached-all l (or-false_right (bad x b.0 b.1) (one_bad x l) h)))

  reached-stop : (l k : List (ℕ × ℕ)) → one_bad x l ≡ true → reached x (l ++ k) ≡ reached x l
  unfolding reached any
  reached-stop [] k h = both_ways (sym h)
  reached-stop (b ∷ l) k h =
      ⊎_elim (λ (y : bad x b.0 b.1 ≡ true). rw y)
      (λ (y : bad x b.0 b.1 ≡ false). rw y (ap (λ (k : List (ℕ × ℕ)). b ∷ k) (reached-stop l k (rw y at h)))) (either (bad x b.0 b.1))

  reached_past : (l k : List (ℕ × ℕ)) → one_bad x l ≡ false → reached x (l ++ k) ≡ l ++ reached x k
  unfolding reached any
  reached_past [] k h = refl
  reached_past (b ∷ l) k h =
      rw (or-false_left (bad x b.0 b.1) (one_bad x l) h)
      (ap (λ (k : List (ℕ × ℕ)). b ∷ k) (reached_past l k (or-false_right (bad x b.0 b.1) (one_bad x l) h)))

  -- the first bad one is the same
  pub met-same : {A : Type 0} (y : Index) (l : List (ℕ × ℕ)) → All (Same x y) (reached x l) → (refused : Refusal → A) (answer : A)
      → unless (met y l) refused answer ≡ unless (met x l) refused answer
  unfolding reached unless
  met-same y [] h refused answer = refl
  met-same y (b ∷ l) h refused answer =
      ⊎_elim (λ (e : bad x b.0 b.1 ≡ true). rw (h.0.as_bad, e))
      (λ (e : bad x b.0 b.1 ≡ false). let later = rw e at h.1 in rw (h.0.as_bad, e) (met-same y l later refused answer)) (either (bad x b.0 b.1))

  pub one_bad-same : (y : Index) (l : List (ℕ × ℕ)) → All (Same x y) (reached x l) → one_bad y l ≡ one_bad x l
  unfolding reached any
  one_bad-same y [] h = refl
  one_bad-same y (b ∷ l) h =
      ⊎_elim (λ (e : bad x b.0 b.1 ≡ true). rw (h.0.as_bad, e))
      (λ (e : bad x b.0 b.1 ≡ false). let later = rw e at h.1 in rw (h.0.as_bad, e) (one_bad-same y l later)) (either (bad x b.0 b.1))

-- ---- the walk

-- the first N steps meet no bad bucket, or there is the first step that does
bad-step : (ask : Question) (N : ℕ)
    → (one_bad ask.index (opened ask N) ≡ false)
    ⊎ ((R : ℕ) × (R < N) × (one_bad ask.index (opened ask R) ≡ false) × (one_bad ask.index (opened ask (suc R)) ≡ true))
unfolding opened cat any
bad-step ask zero = inl refl
bad-step ask (suc N) =
    ⊎_elim
    (λ (none : one_bad ask.index (opened ask N) ≡ false).
    ⊎_elim (λ (e : one_bad ask.index (opened ask (suc N)) ≡ true). inr (N, le_refl (suc N), none, e)) (λ e. inl e) (either (one_bad ask.index (opened ask (suc N)))))
    (λ (f : (R : ℕ) × (R < N) × (one_bad ask.index (opened ask R) ≡ false) × (one_bad ask.index (opened ask (suc R)) ≡ true)).
    let (R, l, none, one) = f in inr (R, omega arith, none, one))
    (bad-step ask N)

-- the same buckets are opened
pub opened-same : (ask : Question) (starts ids : List ℕ) (N : ℕ) → opened (reasked ask starts ids) N ≡ opened ask N
unfolding opened opens
opened-same ask starts ids N = refl

module _ (ask : Question) (starts ids : List ℕ) where
  pub tested-same : (N : ℕ) → AllSame ask.index starts ids (opened ask N) → (i : ℕ)
      → tested (reasked ask starts ids) N i ≡ tested ask N i
  unfolding tested opened opens
  tested-same N h i = all-any-same _ _ (opened ask N) (all_imp _ _ (opened ask N) (λ b s. ap (has i) s.lists) h)

  near_same : (N R : ℕ) → R < N → AllSame ask.index starts ids (opened ask N) → near (reasked ask starts ids) R ≡ near ask R
  unfolding near
  near_same N R l h =
      let (t, e) = opened_front ask (R + 1) N (omega arith) in
      let s = all_front _ (opened ask (R + 1)) t (rw e at h) in
      upto_cong _ _ (n ask.index) (λ i _. ap (λ (b : Bool). leb (distance_of ask i) R && b) (tested-same (R + 1) s i))

-- Of a walk of N steps under one pair of tables and of N' under the other: all buckets are the same, or the first bad one
pub data Compared (ask : Question) (starts ids : List ℕ) (N N' : ℕ) : Type 0 where
  clear : N' ≡ N → AllSame ask.index starts ids (opened ask N) → Compared ask starts ids N N'
  stopped : (l t t' : List (ℕ × ℕ)) → opened ask N ≡ l ++ t → opened ask N' ≡ l ++ t' → one_bad ask.index l ≡ true
      → AllSame ask.index starts ids (reached ask.index l) → Compared ask starts ids N N'

module _ (ask : Question) (starts ids : List ℕ) (N : ℕ) (agree : Agree ask.index (reached ask.index (opened ask N)) starts ids) where
  compare : (N' : ℕ) → (AllSame ask.index starts ids (opened ask N) → N' ≡ N)
      → ((R : ℕ) → R < N → AllSame ask.index starts ids (opened ask R) → R < N') → Compared ask starts ids N N'
  compare N' all some =
      let x = ask.index in
      let same = all_same x starts ids (reached x (opened ask N)) agree in
      ⊎_elim
      (λ (none : one_bad x (opened ask N) ≡ false). let s = rw (reached-all x (opened ask N) none) at same in Compared.clear (all s) s)
      (λ (f : (R : ℕ) × (R < N) × (one_bad x (opened ask R) ≡ false) × (one_bad x (opened ask (suc R)) ≡ true)).
      let (R, l, none, one) = f in
      let (t, e) = opened_front ask (suc R) N l in
      let (o, g) = opened_front ask R (suc R) (omega arith) in
      let s : AllSame x starts ids (reached x (opened ask (suc R))) = rw (e, reached-stop x (opened ask (suc R)) t one) at same in
      let before : AllSame x starts ids (opened ask R) = all_front _ (opened ask R) (reached x o) (rw (g, reached_past x (opened ask R) o none) at s) in
      let (t', e') = opened_front ask (suc R) N' (some R l before) in
      Compared.stopped (opened ask (suc R)) t t' e e' one s)
      (bad-step ask N)

  pub compare_same : Compared ask starts ids N N
  compare_same = compare N (λ _. refl) (λ R l _. l)

-- a walk that goes on until enough is near
module _ (ask : Question) (starts ids : List ℕ) (enough : List ℕ → Bool) where
  compare_until : Agree ask.index (reached ask.index (opened ask (steps_until ask enough))) starts ids
      → Compared ask starts ids (steps_until ask enough) (steps_until (reasked ask starts ids) enough)
  compare_until agree =
      compare ask starts ids (steps_until ask enough) agree (steps_until (reasked ask starts ids) enough)
      (λ s. ap (λ (R : ℕ). R + 1) (first-same here there 0 top (λ j l. ap enough (near_same ask starts ids (steps_until ask enough) j (omega arith) s))))
      (λ R l s. let later = first-later here there 0 top R (λ j jR. ap enough (near_same ask starts ids R j jR s)) (omega arith) in omega arith)
    where
      here : ℕ → Bool
      here R = enough (near ask R)

      there : ℕ → Bool
      there R = enough (near (reasked ask starts ids) R)

      top : ℕ
      top = q ask.index.shape

module _ (ask : Question) (starts ids : List ℕ) where
  abbrev other : Question
  other = reasked ask starts ids

  pub compare_nearest : (k : ℕ) → Agree ask.index (reached ask.index (opened ask (nearest_steps ask k))) starts ids
      → Compared ask starts ids (nearest_steps ask k) (nearest_steps other k)
  compare_nearest k agree =
      ⊎_elim
      (λ (none : 0 ≡ K ask.index k). rw (steps_none other k (sym none), ← steps_none ask k (sym none)) (compare_same ask starts ids (nearest_steps ask k) agree))
      (λ (some : 0 < K ask.index k).
      rw (steps_some ask k some, steps_some other k some) (compare_until ask starts ids (enough ask k) (rw (steps_some ask k some) at agree)))
      (eq-or-lt_of_le zero-le)

  pub compare_verdict : Agree ask.index (reached ask.index (opened ask (verdict_steps ask))) starts ids
      → Compared ask starts ids (verdict_steps ask) (verdict_steps other)
  compare_verdict agree =
      ⊎_elim
      (λ (none : 0 ≡ n ask.index). rw (verdict-none other (sym none), ← verdict-none ask (sym none)) (compare_same ask starts ids (verdict_steps ask) agree))
      (λ (some : 0 < n ask.index).
      rw (verdict_some ask some, verdict_some other some) (compare_until ask starts ids (two_stars (star_of ask)) (rw (verdict_some ask some) at agree)))
      (eq-or-lt_of_le zero-le)
