-- The order of `ranked`: each kept entry once, by key and then by number; and where K of the kept have keys of R or less, their first K are told by those alone. Assumes nothing.
use mathlib.Core.Path.{◌≡◌, refl, sym, ap, ap₂, ◌∙◌, subst}
use mathlib.Core.Logic.{inl, inr, ⊎_elim}
use mathlib.Core.Bool.{Bool, true, false, ◌&&◌, and-true, and-false}
use mathlib.Core.List.{List, [], ◌∷◌, ◌++◌}
use Prim.Native.Nat.{ℕ, zero, suc, ◌≤◌, ◌<◌}
use native.Mathlib.Omega.{arith}
use lib.Dec.{eqb, ltb}
use lib.ListN.{length, take}
use lib.Seq.{take-append-le}
use borrow.Author.Tests.{eq-eqb, ne_eqb, eqb-true, eqb-false}
use Rattle.theory.specs.Lists.{sum, cat, upto, ranked}
use Rattle.theory.proofs.Tests.{either, and_left, one_if}
use Rattle.theory.proofs.Sums.{sum_cong, sum-zero}
use Rattle.theory.proofs.Lists.{cat_cong, cat_front}
use Rattle.theory.proofs.Counting.{only, upto_cong}
use Rattle.theory.proofs.Times.{times, times-cat, times-upto, once}
pub use Rattle.theory.specs.Order.{All, Sorted, Before}

-- ---- lists in order

module _ {A : Type 0} where
  pub all_append : (P : A → Type 0) (l m : List A) → All P l → All P m → All P (l ++ m)
  all_append P [] m h k = k
  all_append P (x ∷ l) m h k = (h.0, all_append P l m h.1 k)

  pub all_imp : (P Q : A → Type 0) (l : List A) → ((x : A) → P x → Q x) → All P l → All Q l
  all_imp P Q [] f h = tt
  all_imp P Q (x ∷ l) f h = (f x h.0, all_imp P Q l f h.1)

  sorted_append : (R : A → A → Type 0) (l m : List A) → Sorted R l → Sorted R m → All (λ x. All (R x) m) l → Sorted R (l ++ m)
  sorted_append R [] m h k c = k
  sorted_append R (x ∷ l) m h k c = (all_append (R x) l m h.0 c.0, sorted_append R l m h.1 k c.1)

  -- one relation for another, where all elements have a property
  sorted_imp : (R S : A → A → Type 0) (P : A → Type 0) (l : List A) → ((x y : A) → P x → P y → R x y → S x y) → All P l → Sorted R l → Sorted S l
  sorted_imp R S P [] f h k = tt
  sorted_imp R S P (x ∷ l) f h k = (go l h.1 k.0, sorted_imp R S P l f h.1 k.1)
    where
      go : (l : List A) → All P l → All (R x) l → All (S x) l
      go [] a b = tt
      go (y ∷ l) a b = (f x y h.0 a.0 b.0, go l a.1 b.1)

  pub cat-all : (P : A → Type 0) (f : ℕ → List A) (n : ℕ) → ((i : ℕ) → i < n → All P (f i)) → All P (cat f n)
  unfolding cat
  cat-all P f zero h = tt
  cat-all P f (suc n) h = all_append P (cat f n) (f n) (cat-all P f n (λ i l. h i (omega arith))) (h n (omega arith))

  -- parts that are in order, each of its own key: in order
  cat_sorted : (R : A → A → Type 0) (key : A → ℕ) → ((x y : A) → key x < key y → R x y) → (f : ℕ → List A)
      → ((i : ℕ) → All (λ x. key x ≡ i) (f i)) → ((i : ℕ) → Sorted R (f i)) → (n : ℕ) → Sorted R (cat f n)
  unfolding cat
  cat_sorted R key less f keys h zero = tt
  cat_sorted R key less f keys h (suc n) =
      sorted_append R (cat f n) (f n) (cat_sorted R key less f keys h n) (h n)
      (all_imp _ _ (cat f n) (λ x l. all_imp _ _ (f n) (λ y e. less x y (omega arith)) (keys n))
      (cat-all (λ x. key x < n) f n (λ i l. all_imp _ _ (f i) (λ x e. omega arith) (keys i))))

  only-all : (P : A → Type 0) (b : Bool) (x : A) → (b ≡ true → P x) → All P (only b x)
  only-all P true x h = (h refl, tt)
  only-all P false x h = tt

  only_sorted : (R : A → A → Type 0) (b : Bool) (x : A) → Sorted R (only b x)
  only_sorted R true x = (tt, tt)
  only_sorted R false x = tt

pub upto_all : (P : ℕ → Type 0) (p : ℕ → Bool) (n : ℕ) → ((i : ℕ) → i < n → p i ≡ true → P i) → All P (upto p n)
upto_all P p n h = cat-all P (λ i. only (p i) i) n (λ i l. only-all P (p i) i (h i l))

pub upto_ascends : (p : ℕ → Bool) (n : ℕ) → Sorted ◌<◌ (upto p n)
upto_ascends p n = cat_sorted ◌<◌ (λ x. x) (λ x y h. h) (λ i. only (p i) i) (λ i. only-all _ (p i) i (λ _. refl)) (λ i. only_sorted ◌<◌ (p i) i) n

-- ---- ranked

-- the test holds, and k is one of the numbers below q
sum-eqb : (b : Bool) (k q : ℕ) → sum (λ d. one_if (eqb k d && b)) q ≡ one_if (ltb k q && b)
sum-eqb true k q =
    sum_cong _ _ q (λ d _. ap one_if (and-true (eqb k d))) ∙ sym (times-upto (eqb k) (λ _. true) q) ∙ once (λ _. true) k q
sum-eqb false k q = sum-zero _ q (λ d _. rw and-false) ∙ sym (rw and-false)

module _ (key : ℕ → ℕ) (keep : ℕ → Bool) (n : ℕ) where
  keyed : (d : ℕ) → All (λ i. key i ≡ d) (upto (λ i. eqb (key i) d && keep i) n)
  keyed d = upto_all (λ i. key i ≡ d) (λ i. eqb (key i) d && keep i) n (λ i _ e. eqb-true (key i) d (and_left (eqb (key i) d) (keep i) e))

  pub ranked_sorted : (q : ℕ) → Sorted (Before key) (ranked key keep n q)
  unfolding ranked
  ranked_sorted =
      cat_sorted (Before key) key (λ x y h. inl h) (λ d. upto (λ i. eqb (key i) d && keep i) n) keyed
      (λ d. sorted_imp ◌<◌ (Before key) (λ i. key i ≡ d) (upto (λ i. eqb (key i) d && keep i) n) (λ x y a b l. inr (a ∙ sym b, l)) (keyed d)
      (upto_ascends (λ i. eqb (key i) d && keep i) n))

  pub ranked-below : (q : ℕ) → All (λ i. key i < q) (ranked key keep n q)
  unfolding ranked
  ranked-below q =
      cat-all (λ i. key i < q) (λ d. upto (λ i. eqb (key i) d && keep i) n) q
      (λ d l. all_imp (λ i. key i ≡ d) (λ i. key i < q) (upto (λ i. eqb (key i) d && keep i) n) (λ i e. omega arith) (keyed d))

  -- each that is kept and near enough, once; and no other
  pub ranked_once : (i q : ℕ) → times (eqb i) (ranked key keep n q) ≡ one_if (ltb i n && (ltb (key i) q && keep i))
  unfolding ranked
  ranked_once i q =
      times-cat (eqb i) (λ d. upto (λ i. eqb (key i) d && keep i) n) q
      ∙ sum_cong _ _ q (λ d _. once (λ i. eqb (key i) d && keep i) i n ∙ ap one_if (turn (ltb i n) (eqb (key i) d) (keep i)))
      ∙ sum-eqb (ltb i n && keep i) (key i) q ∙ ap one_if (sym (turn (ltb i n) (ltb (key i) q) (keep i)))
    where
      turn : (a b c : Bool) → (a && (b && c)) ≡ (b && (a && c))
      turn true b c = refl
      turn false b c = sym (and-false b)

-- only what is kept among the near ones matters
pub ranked_cong : (key : ℕ → ℕ) (keep kept : ℕ → Bool) (n q : ℕ) → ((i : ℕ) → i < n → key i < q → keep i ≡ kept i)
    → ranked key keep n q ≡ ranked key kept n q
unfolding ranked
ranked_cong key keep kept n q h =
    cat_cong _ _ q (λ d ld. upto_cong _ _ n (λ i li.
    ⊎_elim (λ (e : eqb (key i) d ≡ true). ap (λ (b : Bool). eqb (key i) d && b) (h i li (omega (arith, eqb-true (key i) d e))))
    (λ (e : eqb (key i) d ≡ false). rw e) (either (eqb (key i) d))))

-- the near ones come first
pub ranked_front : (key : ℕ → ℕ) (keep : ℕ → Bool) (n R q : ℕ) → R ≤ q → (t : List ℕ) × (ranked key keep n q ≡ ranked key keep n R ++ t)
unfolding ranked
ranked_front key keep n R q h = cat_front (λ d. upto (λ i. eqb (key i) d && keep i) n) R q h

-- where K entries have keys below R, these alone tell the first K
pub first-near : (key : ℕ → ℕ) (keep : ℕ → Bool) (n R q K : ℕ) → R ≤ q → K ≤ length (ranked key keep n R) → take K (ranked key keep n q) ≡ take K (ranked key keep n R)
first-near key keep n R q K h room =
    let (t, e) = ranked_front key keep n R q h in
    ap (take K) e ∙ take-append-le K (ranked key keep n R) t room

-- where two sets agree on these, their first K are the same
pub first-ranked : (key : ℕ → ℕ) (keep kept : ℕ → Bool) (n R q K : ℕ) → R ≤ q → ((i : ℕ) → i < n → key i < R → keep i ≡ kept i)
    → K ≤ length (ranked key kept n R) → take K (ranked key keep n q) ≡ take K (ranked key kept n q)
first-ranked key keep kept n R q K h agree room =
    let same = ranked_cong key keep kept n R agree in
    first-near key keep n R q K h (rw same room) ∙ ap (take K) same ∙ sym (first-near key kept n R q K h room)

-- ---- the order and the members tell the list

all-times : (P : ℕ → Type 0) (x : ℕ) (l : List ℕ) → All P l → 0 < times (eqb x) l → P x
unfolding times
all-times P x [] h t = absurd (omega arith)
all-times P x (y ∷ l) h t =
    ⊎_elim (λ e. subst P (sym (eqb-true x y e)) h.0) (λ e. all-times P x l h.1 (let t' = rw e at t in omega (arith, t'))) (either (eqb x y))

pub before_asym : (key : ℕ → ℕ) (x y : ℕ) → Before key x y → Before key y x → ⊥
before_asym key x y (inl a) (inl b) = omega arith
before_asym key x y (inl a) (inr b) = omega arith
before_asym key x y (inr a) (inl b) = omega arith
before_asym key x y (inr a) (inr b) = omega arith

-- two lists in this order that hold each number equally often are one list
pub order_unique : (key : ℕ → ℕ) (l l' : List ℕ) → Sorted (Before key) l → Sorted (Before key) l' → ((i : ℕ) → times (eqb i) l ≡ times (eqb i) l') → l ≡ l'
unfolding times
order_unique key [] [] h h' e = refl
order_unique key [] (y ∷ l') h h' e = absurd (let n = rw (eq-eqb y y refl) at (e y) in omega (arith, n))
order_unique key (x ∷ l) [] h h' e = absurd (let n = rw (eq-eqb x x refl) at (e x) in omega (arith, n))
order_unique key (x ∷ l) (y ∷ l') h h' e =
    ⊎_elim
    (λ (b : eqb x y ≡ true).
    let same : x ≡ y = eqb-true x y b in
    ap₂ (λ (x : ℕ) (l : List ℕ). x ∷ l) same (order_unique key l l' h.1 h'.1 (λ i. let n = rw same at (e i) in omega (arith, n))))
    (λ (b : eqb x y ≡ false).
    let x-later : 0 < times (eqb x) l' = let n = rw (eq-eqb x x refl, b) at (e x) in omega (arith, n) in
    let y-later : 0 < times (eqb y) l = let n = rw (eq-eqb y y refl, ne_eqb y x (λ p. eqb-false x y b (sym p))) at (e y) in omega (arith, n) in
    absurd (before_asym key x y (all-times (Before key x) y l h.0 y-later) (all-times (Before key y) x l' h'.0 x-later)))
    (either (eqb x y))
