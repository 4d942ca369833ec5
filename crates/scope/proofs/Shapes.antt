-- What holds of every listed shape: the users of `m`, `first_bit`, `len` and `starts_before` go by these laws. Assumes nothing.
use mathlib.Core.Path.{◌≡◌, refl, sym, ap, ◌∙◌}
use mathlib.Core.Logic.{⊎_elim}
use mathlib.Core.Bool.{Bool, true, ◌&&◌, ◌||◌}
use mathlib.Core.List.{List}
use Prim.Native.Nat.{ℕ, zero, suc, ◌+◌, ◌*◌, ◌/◌, ◌%◌, ◌^◌, ◌≤◌, ◌<◌, min}
use native.Mathlib.Numerals.{add-one}
use native.Mathlib.Nat.{le_refl, mod-lt, pow-suc, div-add-mod', le-div_iff_mul-le, le_of_mul-le-mul_right, mul-le-mul_right}
use native.Mathlib.Omega.{arith}
use lib.Pow.{pow_mono}
use lib.Dec.{eqb, ltb, leb}
use lib.ListN.{get_or, replicate, get_or-replicate}
use borrow.Author.Tests.{leb-true, ltb-true, le-ltb}
use Rattle.theory.specs.Lists.{sum, cat, tab}
use Rattle.theory.proofs.Tests.{lt-or-le, chosen, and_left, and_right, one_of}
use Rattle.theory.proofs.Sums.{sum-suc, sum_mono, sum_grows, sum-times, sum_two}
use Rattle.theory.proofs.Lists.{get_d_tab}
use Rattle.scope.specs.declared.Shape.{Shape}
use Rattle.scope.specs.Shape.{q, listed, m, first_bit, len, size, starts_before}

pub record Facts (sh : Shape) : Type 0 where
  pub some_words : 0 < sh.w
  pub few_words : sh.w ≤ 4
  pub some_tables : 0 < m sh
  pub few_tables : m sh ≤ 64
  pub some_bits : (z : ℕ) → 0 < len sh z
  pub few_bits : (z : ℕ) → len sh z ≤ 16
  -- the substrings follow one another, and are the whole code
  pub cut : (z : ℕ) → first_bit sh z ≡ sum (len sh) z
  pub whole : sum (len sh) (m sh) ≡ q sh
  -- and so do the tables' parts of the starts
  pub parts : (z : ℕ) → starts_before sh z ≡ sum (λ z. size sh z + 1) z
  pub all-starts : starts_before sh (m sh) ≤ 1048592

-- what `listed` tests
record Limits (sh : Shape) : Type 0 where
  some : 0 < sh.w
  four : sh.w ≤ 4
  least : 4 * sh.w ≤ m sh
  most : m sh ≤ 16 * sh.w

limits : (sh : Shape) → listed sh ≡ true → Limits sh
unfolding listed
limits sh h =
    let words = eqb sh.w 1 || eqb sh.w 2 || eqb sh.w 4 in
    let low = leb (q sh / 16) (m sh) in
    let high = leb (m sh) (q sh / 4) in
    let both = and_right words (low && high) h in
    let few : (0 < sh.w) × (sh.w ≤ 4) =
    one_of 1 2 4 sh.w (λ w. (0 < w) × (w ≤ 4)) (omega arith, omega arith) (omega arith, omega arith) (omega arith, omega arith) (and_left words (low && high) h) in
    let l = leb-true (q sh / 16) (m sh) (and_left low high both) in
    let u = leb-true (m sh) (q sh / 4) (and_right low high both) in
    record { some = few.0; four = few.1; least = omega arith; most = omega arith }

-- every substring has ⌊q/m⌋ bits or one more
len_cases : (sh : Shape) (P : ℕ → Type 0) → P (q sh / m sh) → (0 < q sh % m sh → P (q sh / m sh + 1)) → (z : ℕ) → P (len sh z)
unfolding len
len_cases sh P short long z =
    chosen P (ltb z (q sh % m sh)) (q sh / m sh + 1) (q sh / m sh) (λ e. long (omega (arith, ltb-true z (q sh % m sh) e))) (λ _. short)

-- where m divides q, all have q/m
pub len_equal : (sh : Shape) → q sh % m sh ≡ 0 → (z : ℕ) → len sh z ≡ q sh / m sh
len_equal sh e = len_cases sh (λ l. l ≡ q sh / m sh) refl (λ more. absurd (omega arith))

-- substring z's first bit, and the starts of the tables before z, in closed form
pub first_closed : (sh : Shape) (z : ℕ) → first_bit sh z ≡ z * (q sh / m sh) + min z (q sh % m sh)
unfolding first_bit len
first_closed sh z = let lo = q sh / m sh in omega (arith, sum_two (λ l. l) (lo + 1) lo (q sh % m sh) z)

pub starts_closed : (sh : Shape) (z : ℕ) → let each = 2 ^ (q sh / m sh) in starts_before sh z ≡ z * (each + 1) + min z (q sh % m sh) * each
unfolding starts_before len
starts_closed sh z =
    let lo = q sh / m sh in
    let longer = min z (q sh % m sh) in
    omega (arith, sum_two (λ l. 2 ^ l + 1) (lo + 1) lo (q sh % m sh) z, ap (λ (p : ℕ). longer * p) (ap (λ (l : ℕ). 2 ^ l) (add-one lo) ∙ pow-suc 2 lo))

-- t bits for each are enough, then none has more
pub len-le : (sh : Shape) (t : ℕ) → 0 < m sh → q sh ≤ t * m sh → (z : ℕ) → len sh z ≤ t
len-le sh t some enough =
    let lo = q sh / m sh in
    let parts : lo * m sh + q sh % m sh ≡ q sh = div-add-mod' (q sh) (m sh) in
    len_cases sh (λ l. l ≤ t) (le_of_mul-le-mul_right {m = lo} {n = t} {k = m sh} (omega arith) some)
    (λ more. ⊎_elim (λ (l : lo < t). omega arith) (λ (far : t ≤ lo). absurd (omega (arith, mul-le-mul_right (m sh) far))) (lt-or-le lo t))

-- where of all tables up to t bits one of t bits has the most starts to the bit, so many starts are enough
pub starts-le : (sh : Shape) (t : ℕ) → tab (λ k. leb ((2 ^ suc k + 1) * t) (suc k * (2 ^ t + 1))) t ≡ replicate t true
    → ((z : ℕ) → (0 < len sh z) × (len sh z ≤ t)) → sum (len sh) (m sh) ≡ q sh → starts_before sh (m sh) * t ≤ q sh * (2 ^ t + 1)
unfolding starts_before
starts-le sh t most bits whole =
    omega (
      arith,
      ap (λ (n : ℕ). n * (2 ^ t + 1)) whole,
      sum_mono (λ z. (size sh z + 1) * t) (λ z. len sh z * (2 ^ t + 1)) (m sh) (λ z _. each (len sh z) (bits z).0 (bits z).1),
      sum-times (λ z. size sh z + 1) t (m sh),
      sum-times (len sh) (2 ^ t + 1) (m sh),
    )
  where
    each : (k : ℕ) → 0 < k → k ≤ t → (2 ^ k + 1) * t ≤ k * (2 ^ t + 1)
    each zero some few = absurd (omega arith)
    each (suc k) some few =
        let test : ℕ → Bool = λ k. leb ((2 ^ suc k + 1) * t) (suc k * (2 ^ t + 1)) in
        leb-true ((2 ^ suc k + 1) * t) (suc k * (2 ^ t + 1)) (sym (get_d_tab test true t k few) ∙ ap (λ (l : List Bool). get_or l k true) most ∙ get_or-replicate t k true true few)

pub facts : (sh : Shape) → listed sh ≡ true → Facts sh
unfolding first_bit starts_before cat
facts sh h =
    let g = limits sh h in
    let lo = q sh / m sh in
    let k = q sh % m sh in
    let some : 0 < m sh = omega arith in
    let left : k < m sh = mod-lt (q sh) some in
    let parts : lo * m sh + k ≡ q sh = div-add-mod' (q sh) (m sh) in
    let low : 4 ≤ lo = (le-div_iff_mul-le some).1 (omega arith) in
    let bits : (z : ℕ) → (0 < len sh z) × (len sh z ≤ 16) =
    λ z. (len_cases sh (λ l. 0 < l) (omega arith) (λ more. omega arith) z, len-le sh 16 some (omega arith) z) in
    let whole : sum (len sh) (m sh) ≡ q sh = let e : min (m sh) k ≡ k = omega arith in first_closed sh (m sh) ∙ rw e (omega arith) in
    record {
      some_words = g.some;
      few_words = g.four;
      some_tables = some;
      few_tables = omega arith;
      some_bits = λ z. (bits z).0;
      few_bits = λ z. (bits z).1;
      cut = λ z. refl;
      whole = whole;
      parts = λ z. refl;
      all-starts = omega (arith, starts-le sh 16 refl bits whole);
    }

-- ---- what follows, for table z

module _ (sh : Shape) (f : Facts sh) where
  pub few_buckets : (z : ℕ) → size sh z ≤ 65536
  few_buckets z = pow_mono (f.few_bits z)

  -- of the two lengths the smaller
  pub few_least : q sh / m sh ≤ 16
  unfolding len
  few_least = let k = q sh % m sh in rw (le-ltb k k (le_refl k)) at (f.few_bits k)

  -- substring z ends within the code, and table z's part within the starts
  pub in_code : (z : ℕ) → z < m sh → first_bit sh z + len sh z ≤ q sh
  in_code z h = omega (arith, f.cut z, f.whole, sum-suc (len sh) z, sum_grows (len sh) (suc z) (m sh) h)

  pub next_part : (z : ℕ) → starts_before sh (suc z) ≡ starts_before sh z + (size sh z + 1)
  next_part z = f.parts (suc z) ∙ sum-suc (λ z. size sh z + 1) z ∙ ap (λ (k : ℕ). k + (size sh z + 1)) (sym (f.parts z))

  pub in_starts : (z : ℕ) → z < m sh → starts_before sh z + (size sh z + 1) ≤ starts_before sh (m sh)
  in_starts z h = omega (arith, next_part z, f.parts (suc z), f.parts (m sh), sum_grows (λ z. size sh z + 1) (suc z) (m sh) h)
