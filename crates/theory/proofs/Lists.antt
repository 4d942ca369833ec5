-- Laws of the list tools. Assumes nothing.
use mathlib.Core.Path.{◌≡◌, refl, sym, ap, ap₂, ◌∙◌, subst}
use mathlib.Core.Logic.{◌⊎◌, inl, inr, ⊎_elim}
use mathlib.Core.Bool.{Bool, true, false, ◌||◌, or-false, or_assoc}
use mathlib.Core.List.{List, [], ◌∷◌, ◌++◌, map, append_assoc, append-nil}
use Prim.Native.Nat.{ℕ, zero, suc, ◌+◌, ◌-◌, ◌≤◌, ◌<◌}
use native.Mathlib.Nat.{add-zero, add-suc, eq-or-lt_of_le, le_refl}
use native.Mathlib.Numerals.{add-one}
use native.Mathlib.Decide.{le_ind}
use native.Mathlib.Omega.{arith}
use lib.Dec.{eqb}
use lib.ListN.{length, get_or, take, drop, set, length-append, length-drop, length-set, drop_of_length-le, get_or-append}
use lib.Seq.{ext_get_or, get_or_at, get_or-take, take_at, drop_at, length-take-le, sets, set_out, get_or-set_same, get_or-set_other}
use borrow.Author.Tests.{eqb-true, eq-eqb}
use Rattle.theory.specs.Lists.{sum, first_from, cat, tab, any, over, between, has, same, padded}
use Rattle.theory.proofs.Tests.{either, lt-or-le, both_ways, eq-or_ne, or-true, or_left, or_right, and_left, and_right}

-- ---- first

-- no number passes: all are passed over
pub first-none : (p : ℕ → Bool) (n i : ℕ) → ((j : ℕ) → i ≤ j → j < i + n → p j ≡ false) → first_from p i n ≡ i + n
unfolding first_from
first-none p zero i h = omega arith
first-none p (suc n) i h =
    let e = h i (omega arith) (omega arith) in
    let ih = first-none p n (suc i) (λ j a b. h j (omega arith) (omega arith)) in
    rw e (ih ∙ omega arith)

-- R passes and none before it: it is the first
pub first_is : (p : ℕ → Bool) (n i R : ℕ) → i ≤ R → R < i + n → ((j : ℕ) → i ≤ j → j < R → p j ≡ false) → p R ≡ true → first_from p i n ≡ R
unfolding first_from
first_is p zero i R a b h t = let z : ⊥ = omega arith in elim z [ ]
first_is p (suc n) i R a b h t =
    ⊎_elim
    (λ (e : i ≡ R). let u : p i ≡ true = subst (λ (x : ℕ). p x ≡ true) (sym e) t in rw u e)
    (λ (l : i < R).
    let u = h i (omega arith) l in
    rw u (first_is p n (suc i) R l (omega arith) (λ j c d. h j (omega arith) d) t))
    (eq-or-lt_of_le a)

pub first_ge : (p : ℕ → Bool) (i n : ℕ) → i ≤ first_from p i n
unfolding first_from
first_ge p i zero = le_refl i
first_ge p i (suc n) = ⊎_elim (λ (e : p i ≡ true). rw e (le_refl i)) (λ (e : p i ≡ false). rw e (omega (arith, first_ge p (suc i) n))) (either (p i))

-- none before the first passes; and it passes itself, if it is not past the last
pub first_before : (p : ℕ → Bool) (n i j : ℕ) → i ≤ j → j < first_from p i n → p j ≡ false
unfolding first_from
first_before p zero i j a b = absurd (omega arith)
first_before p (suc n) i j a b =
    ⊎_elim (λ (e : p i ≡ true). let l : j < i = rw e at b in absurd (omega arith))
    (λ (e : p i ≡ false).
    let l : j < first_from p (suc i) n = rw e at b in
    ⊎_elim (λ (here : j ≡ i). ap p here ∙ e) (λ (ne : j ≡ i → ⊥). first_before p n (suc i) j (omega arith) l) (eq-or_ne j i)) (either (p i))

pub first_passes : (p : ℕ → Bool) (n i : ℕ) → first_from p i n < i + n → p (first_from p i n) ≡ true
unfolding first_from
first_passes p zero i h = absurd (omega arith)
first_passes p (suc n) i h =
    ⊎_elim (λ (e : p i ≡ true). rw e e)
    (λ (e : p i ≡ false). let l : first_from p (suc i) n < i + suc n = rw e at h in rw e (first_passes p n (suc i) (omega arith))) (either (p i))

-- none before R passes: it is no earlier than R
pub first_past : (p : ℕ → Bool) (n i R : ℕ) → R ≤ i + n → ((j : ℕ) → i ≤ j → j < R → p j ≡ false) → R ≤ first_from p i n
unfolding first_from
first_past p zero i R h f = omega arith
first_past p (suc n) i R h f =
    ⊎_elim (λ (l : i < R). later l (first_past p n (suc i) R (omega arith) (λ j a b. f j (omega arith) b)))
    (λ (g : R ≤ i). omega (arith, first_ge p i (suc n))) (lt-or-le i R)
  where
    later : i < R → R ≤ first_from p (suc i) n → R ≤ first_from p i (suc n)
    later l b = rw (f i (le_refl i) l) b

-- a test that says of each number what another says of the number before it
pub first_shift : (p u : ℕ → Bool) → ((j : ℕ) → p (suc j) ≡ u j) → (n i : ℕ) → first_from p (suc i) n ≡ first_from u i n + 1
unfolding first_from
first_shift p u h zero i = sym (add-one i)
first_shift p u h (suc n) i =
    ⊎_elim (λ (e : u i ≡ true). rw (h i, e) (sym (add-one i))) (λ (e : u i ≡ false). rw (h i, e) (first_shift p u h n (suc i))) (either (u i))

-- a second test that says the same up to there is passed first at the same number
pub first-same : (p u : ℕ → Bool) (i n : ℕ) → ((j : ℕ) → j ≤ first_from p i n → u j ≡ p j) → first_from u i n ≡ first_from p i n
unfolding first_from
first-same p u i zero h = refl
first-same p u i (suc n) h =
    ⊎_elim (λ (e : p i ≡ true). let f : u i ≡ true = h i (rw e (le_refl i)) ∙ e in rw (e, f))
    (λ (e : p i ≡ false).
    let f : u i ≡ false = h i (rw e (omega (arith, first_ge p (suc i) n))) ∙ e in
    rw (e, f) (first-same p u (suc i) n (λ j l. h j (rw e l)))) (either (p i))

-- and one that says the same before R, which is not after that number, is not passed before R
pub first-later : (p u : ℕ → Bool) (i n R : ℕ) → ((j : ℕ) → j < R → u j ≡ p j) → R ≤ first_from p i n → R ≤ first_from u i n
unfolding first_from
first-later p u i zero R h l = l
first-later p u i (suc n) R h l =
    ⊎_elim (λ (e : p i ≡ true). let r : R ≤ i = rw e at l in omega (arith, first_ge u i (suc n)))
    (λ (e : p i ≡ false). let r : R ≤ first_from p (suc i) n = rw e at l in
    ⊎_elim (λ (i<R : i < R). let f : u i ≡ false = h i i<R ∙ e in rw f (first-later p u (suc i) n R h r))
    (λ (R≤i : R ≤ i). omega (arith, first_ge u i (suc n))) (lt-or-le i R))
    (either (p i))

-- ---- cat

module _ {A : Type 0} where
  pub cat-suc : (f : ℕ → List A) (n : ℕ) → cat f (suc n) ≡ cat f n ++ f n
  unfolding cat
  cat-suc f n = refl

  pub length-cat : (f : ℕ → List A) (n : ℕ) → length (cat f n) ≡ sum (λ i. length (f i)) n
  unfolding cat sum
  length-cat f zero = refl
  length-cat f (suc n) = rw length-append (omega (arith, length-cat f n))

  pub cat_cong : (f g : ℕ → List A) (n : ℕ) → ((i : ℕ) → i < n → f i ≡ g i) → cat f n ≡ cat g n
  unfolding cat
  cat_cong f g zero h = refl
  cat_cong f g (suc n) h = ap₂ (λ (x y : List A). x ++ y) (cat_cong f g n (λ i l. h i (omega arith))) (h n (omega arith))

  pub cat_split : (f : ℕ → List A) (a b : ℕ) → cat f (a + b) ≡ cat f a ++ cat (λ i. f (a + i)) b
  unfolding cat
  cat_split f a zero = rw add-zero (sym (append-nil (cat f a)))
  cat_split f a (suc b) = rw (add-suc, cat_split f a b, append_assoc)

  -- the first parts of a longer row of parts
  pub cat_front : (f : ℕ → List A) (z m : ℕ) → z ≤ m → (t : List A) × (cat f m ≡ cat f z ++ t)
  cat_front f z m h =
      let e : m ≡ z + (m - z) = omega arith in
      (cat (λ i. f (z + i)) (m - z), ap (cat f) e ∙ cat_split f z (m - z))

  pub cat-none : (f : ℕ → List A) (n : ℕ) → ((i : ℕ) → i < n → f i ≡ []) → cat f n ≡ []
  unfolding cat
  cat-none f zero h = refl
  cat-none f (suc n) h = rw (cat-none f n (λ i l. h i (omega arith)), h n (omega arith))

  -- part t is the first that is not empty, and g is without it
  pub cat-first : (f g : ℕ → List A) (y : A) (t n : ℕ) → t < n → ((i : ℕ) → i < t → f i ≡ []) → f t ≡ y ∷ []
      → ((i : ℕ) → i ≤ t → g i ≡ []) → ((i : ℕ) → t < i → g i ≡ f i) → cat f n ≡ y ∷ cat g n
  cat-first f g y t n h before here gone after =
      let d = n - suc t in
      let e : n ≡ suc t + d = omega arith in
      let front : cat f (suc t) ≡ y ∷ [] = cat-suc f t ∙ rw (cat-none f t before, here) in
      ap (cat f) e ∙ cat_split f (suc t) d
      ∙ ap₂ (λ (k l : List A). k ++ l) front (cat_cong _ _ d (λ i _. sym (after (suc t + i) (omega arith))))
      ∙ ap (λ (l : List A). y ∷ l)
      (sym (ap (cat g) e ∙ cat_split g (suc t) d ∙ rw (cat-none g (suc t) (λ i l. gone i (omega arith)))))

  -- ---- tab

  pub tab-suc : (f : ℕ → A) (n : ℕ) → tab f (suc n) ≡ tab f n ++ f n ∷ []
  unfolding cat
  tab-suc f n = refl

  pub length-tab : (f : ℕ → A) (n : ℕ) → length (tab f n) ≡ n
  unfolding cat
  length-tab f zero = refl
  length-tab f (suc n) = length-append (tab f n) (f n ∷ []) ∙ (let h = length-tab f n in omega arith)

  pub get_d_tab : (f : ℕ → A) (d : A) (n i : ℕ) → i < n → get_or (tab f n) i d ≡ f i
  unfolding cat
  get_d_tab f d zero i h = let z : ⊥ = omega arith in elim z [ ]
  get_d_tab f d (suc n) i h =
      ⊎_elim
      (λ (e : i ≡ n). get_or_at (tab f n) (f n) [] d i (length-tab f n ∙ sym e) ∙ ap f (sym e))
      (λ (l : i < n). get_or-append (tab f n) (f n ∷ []) d i (let k = length-tab f n in omega arith) ∙ get_d_tab f d n i l)
      (eq-or-lt_of_le (let g : i ≤ n = omega arith in g))

  -- a list of n elements that are those of f is f's table
  pub is_tab : (f : ℕ → A) (d : A) (n : ℕ) (l : List A) → length l ≡ n → ((i : ℕ) → i < n → get_or l i d ≡ f i) → l ≡ tab f n
  is_tab f d n l e h =
      ext_get_or d l (tab f n) (e ∙ sym (length-tab f n)) (λ i k. let k' : i < n = rw e at k in h i k' ∙ sym (get_d_tab f d n i k'))

  -- two tables of n elements are equally long
  pub same_long : (f g : ℕ → A) (n : ℕ) {l l' : List A} → l ≡ tab f n → l' ≡ tab g n → length l ≡ length l'
  same_long f g n e e' = ap length e ∙ length-tab f n ∙ sym (ap length e' ∙ length-tab g n)

  pub tab_cong : (f g : ℕ → A) (n : ℕ) → ((i : ℕ) → i < n → f i ≡ g i) → tab f n ≡ tab g n
  tab_cong f g n h = cat_cong (λ i. f i ∷ []) (λ i. g i ∷ []) n (λ i l. ap (λ (x : A). x ∷ []) (h i l))

  -- a store at k makes the table of f that of g, where g is a at k and f elsewhere
  pub set-tab : (f g : ℕ → A) (n k : ℕ) (a : A) → k < n → g k ≡ a → ((i : ℕ) → i < n → (i ≡ k → ⊥) → g i ≡ f i) → set (tab f n) k a ≡ tab g n
  set-tab f g n k a h here there = is_tab g a n (set (tab f n) k a) (length-set (tab f n) k a ∙ length-tab f n) at
    where
      at : (i : ℕ) → i < n → get_or (set (tab f n) k a) i a ≡ g i
      at i l =
          ⊎_elim (λ (q : i ≡ k). rw q (get_or-set_same (tab f n) k a a (rw length-tab h) ∙ sym here))
          (λ (q : i ≡ k → ⊥). get_or-set_other (tab f n) k i a a q ∙ get_d_tab f a n i l ∙ sym (there i l q)) (eq-or_ne i k)

  -- ---- any

  pub any_append : (t : A → Bool) (l k : List A) → any t (l ++ k) ≡ (any t l || any t k)
  unfolding any
  any_append t [] k = refl
  any_append t (x ∷ l) k = rw (any_append t l k) (sym (or_assoc (t x) (any t l) (any t k)))

  pub any_one : (t : A → Bool) (x : A) → any t (x ∷ []) ≡ t x
  unfolding any
  any_one t x = or-false (t x)

  pub any_none : (t : A → Bool) → any t [] ≡ false
  unfolding any
  any_none t = refl

  pub any-map : {B : Type 0} (t : A → Bool) (f : B → A) (l : List B) → any t (map f l) ≡ any (λ x. t (f x)) l
  unfolding any
  any-map t f [] = refl
  any-map t f (x ∷ l) = ap (λ (b : Bool). t (f x) || b) (any-map t f l)

  -- in a row of parts: some part has one that passes
  pub any-cat_yes : (t : A → Bool) (f : ℕ → List A) (i n : ℕ) → i < n → any t (f i) ≡ true → any t (cat f n) ≡ true
  any-cat_yes t f i n h e =
      le_ind (λ (k : ℕ). any t (cat f k) ≡ true)
      (ap (any t) (cat-suc f i) ∙ any_append t (cat f i) (f i) ∙ or_right (any t (cat f i)) (any t (f i)) e)
      (λ k _ ih. ap (any t) (cat-suc f k) ∙ any_append t (cat f k) (f k) ∙ or_left (any t (cat f k)) (any t (f k)) ih) n h

  pub any-cat_no : (t : A → Bool) (f : ℕ → List A) (n : ℕ) → ((i : ℕ) → i < n → any t (f i) ≡ false) → any t (cat f n) ≡ false
  unfolding cat any
  any-cat_no t f zero h = refl
  any-cat_no t f (suc n) h = any_append t (cat f n) (f n) ∙ rw (any-cat_no t f n (λ i l. h i (omega arith)), h n (omega arith))

  pub any-cat_at : (t : A → Bool) (f : ℕ → List A) (n : ℕ) → any t (cat f n) ≡ true → (i : ℕ) × (i < n) × (any t (f i) ≡ true)
  unfolding cat any
  any-cat_at t f zero h = both_ways (sym h)
  any-cat_at t f (suc n) h = go (λ e. any-cat_at t f n e) (or-true (any t (cat f n)) (any t (f n)) (sym (any_append t (cat f n) (f n)) ∙ h))
    where
      go : (any t (cat f n) ≡ true → (i : ℕ) × (i < n) × (any t (f i) ≡ true)) → (any t (cat f n) ≡ true) ⊎ (any t (f n) ≡ true)
          → (i : ℕ) × (i < suc n) × (any t (f i) ≡ true)
      go ih (inl e) = let (i, l, a) = ih e in (i, omega arith, a)
      go ih (inr e) = (n, omega arith, e)

-- ---- has

pub has-append : (i : ℕ) (l k : List ℕ) → has i (l ++ k) ≡ (has i l || has i k)
has-append i l k = any_append (eqb i) l k

pub has_one : (i x : ℕ) → has i (x ∷ []) ≡ eqb i x
has_one i x = any_one (eqb i) x

pub has-none : (i : ℕ) → has i [] ≡ false
has-none i = any_none (eqb i)

pub has-suc : (f : ℕ → ℕ) (n j : ℕ) → has j (tab f (suc n)) ≡ (has j (tab f n) || eqb j (f n))
has-suc f n j = rw (tab-suc f n) (has-append j (tab f n) (f n ∷ []) ∙ ap (◌||◌ (has j (tab f n))) (has_one j (f n)))

-- ---- same

pub same_refl : (l : List ℕ) → same l l ≡ true
unfolding same
same_refl [] = refl
same_refl (x ∷ l) = rw (eq-eqb x x refl, same_refl l)

pub same_true : (k l : List ℕ) → same k l ≡ true → k ≡ l
unfolding same
same_true [] [] h = refl
same_true [] (y ∷ l) h = both_ways (sym h)
same_true (x ∷ k) [] h = both_ways (sym h)
same_true (x ∷ k) (y ∷ l) h =
    ap₂ (λ (a : ℕ) (r : List ℕ). a ∷ r) (eqb-true x y (and_left (eqb x y) (same k l) h)) (same_true k l (and_right (eqb x y) (same k l) h))

-- the test, both ways
pub same_yes : (k l : List ℕ) → k ≡ l → same k l ≡ true
same_yes k l e = rw e (same_refl l)

pub same_no : (k l : List ℕ) → (k ≡ l → ⊥) → same k l ≡ false
same_no k l f = ⊎_elim (λ (e : same k l ≡ true). absurd (f (same_true k l e))) (λ (e : same k l ≡ false). e) (either (same k l))

-- ---- set

-- one more at place j is at most one more at place d
pub one_more : (l : List ℕ) (j d : ℕ) → get_or (set l j (get_or l j 0 + 1)) d 0 ≤ get_or l d 0 + 1
one_more l j d =
    ⊎_elim
    (λ (h : j < length l).
    ⊎_elim (λ (e : d ≡ j). rw e (omega (arith, get_or-set_same l j (get_or l j 0 + 1) 0 h)))
    (λ (ne : d ≡ j → ⊥). omega (arith, get_or-set_other l j d (get_or l j 0 + 1) 0 ne)) (eq-or_ne d j))
    (λ (g : length l ≤ j). rw (set_out l j (get_or l j 0 + 1) g) (omega arith)) (lt-or-le j (length l))

-- one list after another
pub sets_append : {A : Type 0} (a l : List A) (i : ℕ) (b : List A) → sets (sets l i a) (i + length a) b ≡ sets l i (a ++ b)
sets_append [] l i b = rw add-zero
sets_append (x ∷ a) l i b =
    let e : i + suc (length a) ≡ suc i + length a = omega arith in
    ap (λ (k : ℕ). sets (sets (set l i x) (suc i) a) k b) e ∙ sets_append a (set l i x) (suc i) b

-- ---- map

module _ {A B : Type 0} (f : A → B) where
  pub get_d_map : (d : A) (e : B) (l : List A) (p : ℕ) → p < length l → get_or (map f l) p e ≡ f (get_or l p d)
  get_d_map d e [] p h = absurd (omega arith)
  get_d_map d e (x ∷ l) zero h = refl
  get_d_map d e (x ∷ l) (suc p) h = get_d_map d e l p (omega arith)

  pub map-take : (k : ℕ) (l : List A) → map f (take k l) ≡ take k (map f l)
  map-take zero l = refl
  map-take (suc k) [] = refl
  map-take (suc k) (x ∷ l) = ap (λ (r : List B). f x ∷ r) (map-take k l)

-- ---- padded, over

-- a list that fills its P places is written as it is; and how long what is written is
pub padded-all : (l : List ℕ) → padded (length l) l ≡ l
padded-all l = sym (is_tab (λ p. get_or l p 0) 0 (length l) l refl (λ i h. refl))

pub length-padded : (P : ℕ) (l : List ℕ) → length (padded P l) ≡ P
length-padded P l = length-tab (λ p. get_or l p 0) P

-- what is past the places is not written
pub padded-take : (P : ℕ) (l : List ℕ) → padded P (take P l) ≡ padded P l
padded-take P l = tab_cong _ _ P (λ p h. get_or-take P l p 0 h)

module _ {A : Type 0} where
  -- the front of what is written, and its rest
  pub take-over : (l old : List A) (k : ℕ) → length l ≡ k → take k (over l old) ≡ l
  take-over l old k e = take_at l (drop (length l) old) k e

  pub drop-over : (l old : List A) (k : ℕ) → length l ≡ k → drop k (over l old) ≡ drop k old
  drop-over l old k e = drop_at l (drop (length l) old) k e ∙ ap (λ (n : ℕ). drop n old) e

  -- written over once more, what stood between does not matter
  pub over_again : (l m old : List A) → length l ≡ length m → over l (over m old) ≡ over l old
  over_again l m old e = ap (λ (z : List A). l ++ z) (drop-over m old (length l) (sym e))

  pub length_over : (l old : List A) → length l ≤ length old → length (over l old) ≡ length old
  length_over l old h = length-append l (drop (length l) old) ∙ simp length-drop (omega arith)

  -- over the whole of a list; and over a front of it, the rest of which stays
  pub over-all : (l old : List A) → length l ≡ length old → over l old ≡ l
  over-all l old e = let g : length old ≤ length l = omega arith in ap (λ (r : List A). l ++ r) (drop_of_length-le old g) ∙ append-nil l

  pub over_front : (l old : List A) (k : ℕ) → length l ≡ k → k ≤ length old → over l (take k old) ++ drop k old ≡ over l old
  over_front l old k e h =
      ap (λ (r : List A). r ++ drop k old) (over-all l (take k old) (e ∙ sym (length-take-le k old h))) ∙ ap (λ (j : ℕ). l ++ drop j old) (sym e)

pub over-padded : (P : ℕ) (l old : List ℕ) → length old ≡ P → over (padded P l) old ≡ padded P l
over-padded P l old e = over-all (padded P l) old (length-padded P l ∙ sym e)

pub take-padded : (P : ℕ) (l old : List ℕ) → length l ≤ P → take (length l) (over (padded P l) old) ≡ l
take-padded P l old h =
    let (t, e) = cat_front (λ p. get_or l p 0 ∷ []) (length l) P h in
    ap (λ (a : List ℕ). take (length l) (a ++ drop (length (padded P l)) old)) e
    ∙ ap (take (length l)) (append_assoc (padded (length l) l) t (drop (length (padded P l)) old))
    ∙ take_at (padded (length l) l) (t ++ drop (length (padded P l)) old) (length l) (length-padded (length l) l)
    ∙ padded-all l

pub over_at : (P : ℕ) (l old : List ℕ) (p : ℕ) → p < P → get_or (over (padded P l) old) p 0 ≡ get_or l p 0
over_at P l old p h = get_or-append (padded P l) _ 0 p (rw length-padded h) ∙ get_d_tab (λ i. get_or l i 0) 0 P p h

-- ---- between

pub between-suc : (a p : ℕ) → a ≤ p → between a (suc p) ≡ between a p ++ p ∷ []
between-suc a p h =
    let e : suc p - a ≡ suc (p - a) = omega arith in
    let f : ℕ → ℕ = λ k. a + k in
    let at : a + (p - a) ≡ p = omega arith in
    ap (tab f) e ∙ tab-suc f (p - a) ∙ ap (λ (x : ℕ). tab f (p - a) ++ x ∷ []) at

pub between_none : (a p : ℕ) → p ≤ a → between a p ≡ []
unfolding cat
between_none a p h = let e : p - a ≡ 0 = omega arith in ap (tab (λ k. a + k)) e
