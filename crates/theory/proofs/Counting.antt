-- Laws of `upto` and `count`: the numbers below n that pass a test. Assumes nothing.
use mathlib.Core.Path.{◌≡◌, refl, sym, ap, ◌∙◌}
use mathlib.Core.Logic.{◌⊎◌, inl, inr, ⊎_elim}
use mathlib.Core.Bool.{Bool, true, false, ◌&&◌, ◌||◌, cond, or-false}
use mathlib.Core.List.{List, [], ◌∷◌, ◌++◌, append-nil}
use Prim.Native.Nat.{ℕ, zero, suc, ◌+◌, ◌≤◌, ◌<◌}
use native.Mathlib.Nat.{le_refl, not-suc-le-zero}
use native.Mathlib.Decide.{le_ind}
use native.Mathlib.Omega.{arith}
use lib.Dec.{ltb}
use lib.ListN.{length, get_or, length-append, get_or-append}
use lib.Seq.{get_or_at}
use borrow.Author.Tests.{eq-eqb, ne_eqb, lt-ltb, le-ltb}
use Rattle.theory.specs.Lists.{sum, first_from, cat, upto, count, any, has}
use Rattle.theory.proofs.Tests.{either, lt-or-le, eq-or_ne, both_ways, ltb-suc, one_if, one_if-le}
use Rattle.theory.proofs.Sums.{sum_cong, sum_mono}
use Rattle.theory.proofs.Lists.{first_before, cat-suc, length-cat, cat_cong, any_one, any_none, any-cat_yes, any-cat_at, has-append, has_one, has-none}

module _ {A : Type 0} where
  -- x where the test holds, or nothing
  abbrev pub only : Bool → A → List A
  only b x = cond b (x ∷ []) []

  pub length-only : (b : Bool) (x : A) → length (only b x) ≡ one_if b
  length-only true x = refl
  length-only false x = refl

module _ (p : ℕ → Bool) where
  pub upto_zero : upto p 0 ≡ []
  unfolding cat
  upto_zero = refl

  pub upto-suc : (n : ℕ) → upto p (suc n) ≡ upto p n ++ only (p n) n
  upto-suc n = cat-suc (λ i. only (p i) i) n

  pub count-sum : (n : ℕ) → count p n ≡ sum (λ i. one_if (p i)) n
  count-sum n = length-cat (λ i. only (p i) i) n ∙ sum_cong _ _ n (λ i _. length-only (p i) i)

  pub count-zero : count p 0 ≡ 0
  count-zero = ap length upto_zero

  pub count-suc : (n : ℕ) → count p (suc n) ≡ count p n + one_if (p n)
  count-suc n = ap length (upto-suc n) ∙ length-append (upto p n) (only (p n) n) ∙ ap (λ (k : ℕ). count p n + k) (length-only (p n) n)

  pub count_yes : (n : ℕ) → p n ≡ true → count p (suc n) ≡ count p n + 1
  count_yes n e = count-suc n ∙ ap (λ (b : Bool). count p n + one_if b) e

  pub count_no : (n : ℕ) → p n ≡ false → count p (suc n) ≡ count p n
  count_no n e = let h : count p (suc n) ≡ count p n + 0 = count-suc n ∙ ap (λ (b : Bool). count p n + one_if b) e in omega arith

  pub count_mono : (i n : ℕ) → i ≤ n → count p i ≤ count p n
  count_mono i n h = le_ind (λ (m : ℕ). count p i ≤ count p m) (le_refl (count p i)) (λ m k e. omega (arith, count-suc m)) n h

  pub count_less : (i n : ℕ) → i < n → p i ≡ true → count p i < count p n
  count_less i n h e = omega (arith, count_yes i e, count_mono (suc i) n h)

pub count-le : (p : ℕ → Bool) (n : ℕ) → count p n ≤ n
unfolding cat
count-le p zero = le_refl 0
count-le p (suc n) = omega (arith, count-le p n, count-suc p n, one_if-le (p n))

pub count-all : (p : ℕ → Bool) (n : ℕ) → ((i : ℕ) → i < n → p i ≡ true) → count p n ≡ n
unfolding cat
count-all p zero h = refl
count-all p (suc n) h = omega (arith, count-all p n (λ i l. h i (omega arith)), count_yes p n (h n (omega arith)))

pub upto_cong : (p q : ℕ → Bool) (n : ℕ) → ((i : ℕ) → i < n → p i ≡ q i) → upto p n ≡ upto q n
upto_cong p q n h = cat_cong _ _ n (λ i l. ap (λ (b : Bool). only b i) (h i l))

pub count_cong : (p q : ℕ → Bool) (n : ℕ) → ((i : ℕ) → i < n → p i ≡ q i) → count p n ≡ count q n
count_cong p q n h = ap length (upto_cong p q n h)

-- a test that passes wherever another does passes as often, or more
pub count_imp : (p q : ℕ → Bool) (n : ℕ) → ((i : ℕ) → p i ≡ true → q i ≡ true) → count p n ≤ count q n
count_imp p q n h = omega (arith, count-sum p n, count-sum q n, sum_mono _ _ n (λ i _. go i (either (p i))))
  where
    go : (i : ℕ) → (p i ≡ true) ⊎ (p i ≡ false) → one_if (p i) ≤ one_if (q i)
    go i (inl e) = rw (e, h i e) (omega arith)
    go i (inr e) = rw e (omega arith)

-- two tests that differ at most at k, where the first fails
pub count_new : (t u : ℕ → Bool) (k n : ℕ) → k < n → t k ≡ false → ((i : ℕ) → (i ≡ k → ⊥) → u i ≡ t i) → count u n ≡ count t n + one_if (u k)
count_new t u k n h out same = le_ind (λ (m : ℕ). count u m ≡ count t m + one_if (u k)) base more n h
  where
    base : count u (suc k) ≡ count t (suc k) + one_if (u k)
    base = count-suc u k ∙ rw (count_no t k out) (ap (λ (x : ℕ). x + one_if (u k)) (count_cong u t k (λ i l. same i (omega arith))))

    more : (m : ℕ) → suc k ≤ m → count u m ≡ count t m + one_if (u k) → count u (suc m) ≡ count t (suc m) + one_if (u k)
    more m l ih = count-suc u m ∙ rw (same m (omega arith)) (omega (arith, count-suc t m))

-- a stretch where nothing passes adds nothing
pub upto_gap : (p : ℕ → Bool) (a b : ℕ) → a ≤ b → ((i : ℕ) → a ≤ i → i < b → p i ≡ false) → upto p b ≡ upto p a
upto_gap p a zero h f = let e : zero ≡ a = omega arith in ap (upto p) e
upto_gap p a (suc b) h f =
    ⊎_elim (λ (l : a < suc b). upto-suc p b ∙ rw (f b (omega arith) (omega arith), append-nil) (upto_gap p a b (omega arith) (λ i x y. f i x (omega arith))))
    (λ (g : suc b ≤ a). let e : suc b ≡ a = omega arith in ap (upto p) e) (lt-or-le a (suc b))

pub upto_never : (p : ℕ → Bool) (n : ℕ) → ((i : ℕ) → i < n → p i ≡ false) → upto p n ≡ []
upto_never p n h = upto_gap p 0 n (omega arith) (λ i _ l. h i l) ∙ upto_zero p

-- from one that passes to the next: the list is empty up to the first, and one longer up to each next one
pub upto-first : (p : ℕ → Bool) (n b : ℕ) → b ≤ first_from p 0 n → upto p b ≡ []
upto-first p n b h = upto_never p b (λ i l. first_before p n 0 i (omega arith) (omega arith))

pub upto_next : (p : ℕ → Bool) (n e b : ℕ) → p e ≡ true → e < b → b ≤ first_from p (e + 1) n → upto p b ≡ upto p e ++ e ∷ []
upto_next p n e b t l h =
    upto_gap p (suc e) b l (λ i a k. first_before p n (e + 1) i (omega arith) (omega arith)) ∙ upto-suc p e ∙ rw t

pub count_never : (p : ℕ → Bool) (n : ℕ) → ((i : ℕ) → i < n → p i ≡ false) → count p n ≡ 0
count_never p n h = ap length (upto_never p n h)

-- ---- which number stands at a place

-- number j passes the test p, is below n, and o smaller numbers pass it
pub record Nth (p : ℕ → Bool) (n o j : ℕ) : Type 0 where
  pub below : j < n
  pub passes : p j ≡ true
  pub before : count p j ≡ o

nth_step : (p : ℕ → Bool) (n o : ℕ) → (o < count p n → Nth p n o (get_or (upto p n) o 0)) → o < count p (suc n)
    → Nth p (suc n) o (get_or (upto p n ++ only (p n) n) o 0)
nth_step p n o ih h = go (p n) refl (lt-or-le o (count p n))
  where
    wider : (j : ℕ) → Nth p n o j → Nth p (suc n) o j
    wider j r = record { below = omega arith; passes = r.passes; before = r.before }

    go : (b : Bool) → p n ≡ b → (o < count p n) ⊎ (count p n ≤ o) → Nth p (suc n) o (get_or (upto p n ++ only (p n) n) o 0)
    go b e (inl l) = rw (get_or-append (upto p n) (only (p n) n) 0 o l) (wider _ (ih l))
    go true e (inr l) =
        let q : count p n ≡ o = omega (arith, count_yes p n e) in
        rw (e, get_or_at (upto p n) n [] 0 o q) (record { below = le_refl (suc n); passes = e; before = q })
    go false e (inr l) = absurd (omega (arith, count_no p n e))

pub upto_at : (p : ℕ → Bool) (n o : ℕ) → o < count p n → Nth p n o (get_or (upto p n) o 0)
unfolding cat
upto_at p zero o h = absurd (not-suc-le-zero h)
upto_at p (suc n) o h = nth_step p n o (upto_at p n o) h

-- ---- membership

pub has-upto : (p : ℕ → Bool) (x n : ℕ) → has x (upto p n) ≡ (ltb x n && p x)
unfolding cat any
has-upto p x zero = sym (rw (le-ltb x 0 (omega arith)))
has-upto p x (suc n) =
    has-append x (upto p n) (only (p n) n) ∙ rw (has-upto p x n)
    (⊎_elim
    (λ (e : x ≡ n). rw (e, le-ltb n n (omega arith), lt-ltb n (suc n) (omega arith)) (here (p n) n))
    (λ (ne : x ≡ n → ⊥). ap (λ (b : Bool). (ltb x n && p x) || b) (other (p n) ne) ∙ rw or-false (ap (λ (b : Bool). b && p x) (sym (ltb-suc n x ne))))
    (eq-or_ne x n))
  where
    here : (b : Bool) (n : ℕ) → has n (only b n) ≡ b
    here true n = has_one n n ∙ eq-eqb n n refl
    here false n = has-none n

    other : (b : Bool) → (x ≡ n → ⊥) → has x (only b n) ≡ false
    other true ne = has_one x n ∙ ne_eqb x n ne
    other false ne = has-none x

-- of the numbers below n that pass p, some passes t
pub any-upto : (t p : ℕ → Bool) (n i : ℕ) → i < n → p i ≡ true → t i ≡ true → any t (upto p n) ≡ true
any-upto t p n i l e h = any-cat_yes t (λ i. only (p i) i) i n l (rw e (any_one t i ∙ h))

pub any-upto_at : (t p : ℕ → Bool) (n : ℕ) → any t (upto p n) ≡ true → (i : ℕ) × (i < n) × (p i ≡ true) × (t i ≡ true)
any-upto_at t p n h =
    let (i, l, e) = any-cat_at t (λ i. only (p i) i) n h in
    let both = passes (p i) i e in (i, l, both.0, both.1)
  where
    passes : (b : Bool) (x : ℕ) → any t (only b x) ≡ true → (b ≡ true) × (t x ≡ true)
    passes true x h = (refl, sym (any_one t x) ∙ h)
    passes false x h = both_ways (sym h ∙ any_none t)
