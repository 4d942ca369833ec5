-- Entries placed one after another, in entry order, become the answers in their order. Assumes nothing.
use mathlib.Core.Path.{◌≡◌, refl, sym, ap, ap₂, ◌∙◌}
use mathlib.Core.Logic.{◌⊎◌, inl, inr, ⊎_elim}
use mathlib.Core.Bool.{Bool, true, false, ◌&&◌, cond, and-false}
use mathlib.Core.List.{List, [], ◌∷◌, ◌++◌, map, map-id}
use Prim.Native.Nat.{ℕ, zero, suc, ◌+◌, ◌≤◌, ◌<◌}
use native.Mathlib.Nat.{le_refl, add-zero, zero-add, suc-add}
use native.Mathlib.Omega.{arith}
use lib.Dec.{eqb, ltb, leb}
use lib.ListN.{length, get_or, set, length-set}
use lib.Seq.{set_out}
use borrow.Author.Tests.{lt-ltb, le-ltb, le-leb, lt-leb, leb-true, leb-false, ne_eqb}
use Rattle.theory.specs.Lists.{cat, tab, upto, count, ranked, padded}
use Rattle.theory.proofs.Tests.{either, ltb-suc, lt-or-le, both_ways, leb_is_ltb}
use Rattle.theory.proofs.Lists.{length-tab, get_d_tab, tab_cong, one_more}
use Rattle.theory.proofs.Counting.{only, count_cong, count_no}
use Rattle.theory.proofs.Placing.{lower, among, place_of, so_far, lower-suc, put, skip, none_done, all_done, next_up}
use Rattle.ranking.specs.Place.{Lists, lists, place, place_each, Free}

-- ---- what one entry's placing does

module _ (dist : ℕ → ℕ) (limit i : ℕ) (next entries distances : List ℕ) where
  -- too far: nothing changes
  pub placed_far : limit < dist i → lists next entries distances ≡ place dist limit i (lists next entries distances)
  unfolding place
  placed_far h = rw (lt-leb (dist i) limit h)

  module _ (d : ℕ) (e : d ≡ dist i) (h : d ≤ limit) where
    -- near: written at its place; past the end of the lists there is none
    pub placed_near : lists (set next d (get_or next d 0 + 1)) (set entries (get_or next d 0) i) (set distances (get_or next d 0) d)
        ≡ place dist limit i (lists next entries distances)
    unfolding place
    placed_near = rw (← e, le-leb d limit h)

    pub placed_past : length entries ≤ get_or next d 0 → length distances ≤ get_or next d 0
        → lists (set next d (get_or next d 0 + 1)) entries distances ≡ place dist limit i (lists next entries distances)
    placed_past p q =
        ap₂ (lists (set next d (get_or next d 0 + 1))) (sym (set_out entries (get_or next d 0) i p)) (sym (set_out distances (get_or next d 0) d q)) ∙ placed_near

-- ---- one after another

module _ (dist : ℕ → ℕ) (limit : ℕ) where
  pub each_one : (i : ℕ) (l : List ℕ) (a : Lists) → place_each dist limit (i ∷ l) a ≡ place_each dist limit l (place dist limit i a)
  unfolding place_each
  each_one i l a = refl

  pub each_none : (a : Lists) → place_each dist limit [] a ≡ a
  unfolding place_each
  each_none a = refl

  pub each_append : (l k : List ℕ) (a : Lists) → place_each dist limit (l ++ k) a ≡ place_each dist limit k (place_each dist limit l a)
  unfolding place_each
  each_append [] k a = refl
  each_append (i ∷ l) k a = each_append l k (place dist limit i a)

  module _ (P : ℕ) where
    -- one place fewer is free
    pub free_next : (i k : ℕ) (a : Lists) → Free P limit a (suc k) → Free P limit (place dist limit i a) k
    unfolding place
    free_next i k a r = go (leb (dist i) limit)
      where
        go : (b : Bool) → let d = dist i in let p = get_or a.next d 0 in
            Free P limit (cond b (lists (set a.next d (p + 1)) (set a.entries p i) (set a.distances p d)) a) k
        go true =
            record {
              all = length-set a.next (dist i) _ ∙ r.all;
              listed = length-set a.entries _ _ ∙ r.listed;
              measured = length-set a.distances _ _ ∙ r.measured;
              free = λ d. omega (arith, one_more a.next (dist i) d, r.free d);
            }
        go false = record { all = r.all; listed = r.listed; measured = r.measured; free = λ d. omega (arith, r.free d) }

    pub free_each : (l : List ℕ) (k : ℕ) (a : Lists) → Free P limit a (length l + k) → Free P limit (place_each dist limit l a) k
    unfolding place_each
    free_each [] k a r = rw zero-add at r
    free_each (i ∷ l) k a r = free_each l k (place dist limit i a) (free_next i (length l + k) a (rw suc-add at r))

-- fewer, as the lists stand
pub free_now : (P limit k m : ℕ) (a : Lists) → k ≤ m → Free P limit a m → Free (length a.entries) limit a k
free_now P limit k m a h r = record { all = r.all; listed = refl; measured = r.measured ∙ sym r.listed; free = λ d. omega (arith, r.free d) }

-- ---- in entry order: as the answers are ordered

-- the entries below i are placed: in each list place p has its answer, if that one is below i, and else 0
record Placed (n : ℕ) (dist : ℕ → ℕ) (keep : ℕ → Bool) (limit P i : ℕ) (a : Lists) : Type 0 where
  next : a.next ≡ tab (λ d. lower dist keep n d + among dist keep i d) (limit + 1)
  listed : a.entries ≡ tab (so_far (λ x. x) (λ _. 0) (ranked dist keep n (limit + 1)) (λ x. ltb x i)) P
  measured : a.distances ≡ tab (so_far dist (λ _. 0) (ranked dist keep n (limit + 1)) (λ x. ltb x i)) P

-- all are placed
pub record Answered (n : ℕ) (dist : ℕ → ℕ) (keep : ℕ → Bool) (limit P : ℕ) (a : Lists) : Type 0 where
  pub next : a.next ≡ tab (λ d. count (λ i. leb (dist i) d && keep i) n) (limit + 1)
  pub listed : a.entries ≡ padded P (ranked dist keep n (limit + 1))
  pub measured : a.distances ≡ padded P (map dist (ranked dist keep n (limit + 1)))

module _ (n : ℕ) (dist : ℕ → ℕ) (keep : ℕ → Bool) (limit P : ℕ) where
  -- entry i, within the limit, is written at its place, or has none
  written : (f : ℕ → ℕ) (i : ℕ) → i < n → keep i ≡ true → dist i ≤ limit
      → set (tab (so_far f (λ _. 0) (ranked dist keep n (limit + 1)) (λ x. ltb x i)) P) (place_of n dist keep i) (f i)
      ≡ tab (so_far f (λ _. 0) (ranked dist keep n (limit + 1)) (λ x. ltb x (suc i))) P
  written f i l k near = go (lt-or-le (place_of n dist keep i) P)
    where
      so : List ℕ
      so = tab (so_far f (λ _. 0) (ranked dist keep n (limit + 1)) (λ x. ltb x i)) P

      go : (place_of n dist keep i < P) ⊎ (P ≤ place_of n dist keep i)
          → set so (place_of n dist keep i) (f i) ≡ tab (so_far f (λ _. 0) (ranked dist keep n (limit + 1)) (λ x. ltb x (suc i))) P
      go (inl p) = put n dist keep f (λ _. 0) (limit + 1) _ _ i (ltb-suc i) P (lt-ltb i (suc i) (le_refl (suc i))) l k (omega arith) p
      go (inr p) =
          set_out so (place_of n dist keep i) (f i) (rw length-tab p)
          ∙ skip n dist keep f (λ _. 0) (limit + 1) _ _ i (ltb-suc i) P (λ _ _ _ h. omega arith)

  -- an entry that is not kept, or over the limit, is passed over
  passed : (i : ℕ) (a : Lists) → (keep i ≡ true → dist i ≤ limit → ⊥) → Placed n dist keep limit P i a → Placed n dist keep limit P (suc i) a
  passed i a never r =
      record {
        next = r.next ∙ tab_cong _ _ (limit + 1) (λ d l. ap (λ (x : ℕ). lower dist keep n d + x) (sym (count_no (λ x. eqb (dist x) d && keep x) i (other d (omega arith)))));
        listed = r.listed ∙ skip n dist keep (λ x. x) (λ _. 0) (limit + 1) _ _ i (ltb-suc i) P (λ _ y z _. never y (omega arith));
        measured = r.measured ∙ skip n dist keep dist (λ _. 0) (limit + 1) _ _ i (ltb-suc i) P (λ _ y z _. never y (omega arith));
      }
    where
      other : (d : ℕ) → d ≤ limit → (eqb (dist i) d && keep i) ≡ false
      other d l =
          ⊎_elim
          (λ (y : keep i ≡ true).
          ap (λ (b : Bool). b && keep i) (ne_eqb (dist i) d (λ e. never y (omega arith))))
          (λ (y : keep i ≡ false). rw y (and-false (eqb (dist i) d))) (either (keep i))

  step : (i : ℕ) (a : Lists) → i < n → Placed n dist keep limit P i a → Placed n dist keep limit P (suc i) (place_each dist limit (only (keep i) i) a)
  unfolding place_each place place_of
  step i a l r = go (keep i) refl (leb (dist i) limit) refl
    where
      go : (b : Bool) → keep i ≡ b → (c : Bool) → leb (dist i) limit ≡ c → Placed n dist keep limit P (suc i) (place_each dist limit (only b i) a)
      go true k true c =
          let near : dist i ≤ limit = leb-true (dist i) limit c in
          let at : get_or a.next (dist i) 0 ≡ place_of n dist keep i =
          ap (λ (t : List ℕ). get_or t (dist i) 0) r.next ∙ get_d_tab _ 0 (limit + 1) (dist i) (omega arith) in
          rw c
          (record {
            next = ap₂ (λ (t : List ℕ) (p : ℕ). set t (dist i) (p + 1)) r.next at ∙ next_up n dist keep i (limit + 1) k (omega arith);
            listed = ap₂ (λ (t : List ℕ) (p : ℕ). set t p i) r.listed at ∙ written (λ x. x) i l k near;
            measured = ap₂ (λ (t : List ℕ) (p : ℕ). set t p (dist i)) r.measured at ∙ written dist i l k near;
          })
      go true k false c = rw c (passed i a (λ _ h. omega (arith, leb-false (dist i) limit c)) r)
      go false k b c = passed i a (λ y _. both_ways (sym y ∙ k)) r

  module _ (a₀ : Lists) (starts : a₀.next ≡ tab (lower dist keep n) (limit + 1))
      (listed : a₀.entries ≡ padded P []) (measured : a₀.distances ≡ padded P []) where
    placed : (i : ℕ) → i ≤ n → Placed n dist keep limit P i (place_each dist limit (upto keep i) a₀)
    unfolding cat place_each
    placed zero l =
        record {
          next = starts ∙ tab_cong _ _ (limit + 1) (λ d _. sym (add-zero (lower dist keep n d)));
          listed = listed ∙ none_done n dist keep (λ x. x) (limit + 1) P (λ _. 0) _ (λ x _. le-ltb x 0 (omega arith));
          measured = measured ∙ none_done n dist keep dist (limit + 1) P (λ _. 0) _ (λ x _. le-ltb x 0 (omega arith));
        }
    placed (suc i) l = rw (each_append dist limit (upto keep i) (only (keep i) i) a₀) (step i _ l (placed i (omega arith)))

    -- THE ORDER OF ANSWERS
    pub in_order : (a : Lists) → a ≡ place_each dist limit (upto keep n) a₀ → Answered n dist keep limit P a
    in_order a e =
        let r = placed n (le_refl n) in
        let all : (x : ℕ) → x < n → ltb x n ≡ true = λ x l. lt-ltb x n l in
        rw e
        (record {
          next =
              r.next
              ∙ tab_cong _ _ (limit + 1) (λ d _. sym (lower-suc n dist keep n d)
              ∙ count_cong _ _ n (λ i _. ap (λ (b : Bool). b && keep i) (sym (leb_is_ltb (dist i) d))));
          listed = r.listed ∙ all_done n dist keep (λ x. x) (limit + 1) P _ all ∙ ap (padded P) (map-id (ranked dist keep n (limit + 1)));
          measured = r.measured ∙ all_done n dist keep dist (limit + 1) P _ all;
        })
