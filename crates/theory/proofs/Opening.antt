-- What the steps open, over m tables: how many buckets, which, and each once. Assumes nothing.
use mathlib.Core.Path.{◌≡◌, refl, sym, ap, ap₂, ◌∙◌}
use mathlib.Core.Logic.{◌⊎◌, ⊎_elim}
use mathlib.Core.Bool.{Bool, true, false, ◌&&◌, and-false, cond}
use mathlib.Core.List.{List, [], ◌∷◌, map}
use Prim.Native.Nat.{ℕ, zero, suc, ◌+◌, ◌-◌, ◌*◌, ◌/◌, ◌%◌, ◌^◌, ◌≤◌, ◌<◌, min}
use native.Mathlib.Nat.{mod-lt, div-add-mod', suc-mul, add-suc, zero-mul, le_refl}
use native.Mathlib.Numerals.{add-one}
use native.Mathlib.Omega.{arith}
use lib.Arith.{digits_div, digits_mod}
use lib.Bits.{bit_and, bit_xor, xor_lt}
use lib.Count.{ones}
use lib.Dec.{eqb, ltb, leb}
use lib.ListN.{length, length-map}
use borrow.Author.Tests.{eq-eqb, ne_eqb, lt-ltb, le-ltb, eqb-true}
use Rattle.theory.specs.Lists.{sum, cat, upto, count, any, is}
use Rattle.theory.specs.Binomials.{L}
use Rattle.theory.proofs.Tests.{either, lt-or-le, both_ways, or_right, and_left, and_right, one_if, cond_of, leb_is_ltb}
use Rattle.theory.proofs.Sums.{sum_cong, sum_split, sum-zero, sum_at, sum_plus, sum_const, sum_cut}
use Rattle.theory.proofs.Lists.{length-cat}
use Rattle.theory.proofs.Times.{times, times-cat, times-map, times_cong, times_never, once}
use Rattle.theory.proofs.Xor.{xor_undo, eqb-xor}
use Rattle.theory.proofs.Masks.{masks_below}
use Rattle.theory.proofs.Pigeon.{pigeon_step}

-- Step R opens of table a = R % m each bucket whose exclusive-or with the query's substring has weight R / m, ascending by the exclusive-or.
-- `len z` is the length of table z's substrings, `wt z e` the weight of the exclusive-or e, and `q z` the query's substring.
abbrev pub step_by : ℕ → (ℕ → ℕ) → (ℕ → ℕ → ℕ) → (ℕ → ℕ) → ℕ → List (ℕ × ℕ)
step_by m len wt q R = map (λ e. (R % m, bit_xor (q (R % m)) e)) (upto (λ e. eqb (wt (R % m) e) (R / m)) (2 ^ len (R % m)))

-- the first n steps: steps 0 to R are the first R + 1
abbrev pub opened_by : ℕ → (ℕ → ℕ) → (ℕ → ℕ → ℕ) → (ℕ → ℕ) → ℕ → List (ℕ × ℕ)
opened_by m len wt q n = cat (step_by m len wt q) n

-- a bucket of a list that passes the test
pub any-bucket : (t : ℕ × ℕ → Bool) (l : List (ℕ × ℕ)) → any t l ≡ true → (b : ℕ × ℕ) × (t b ≡ true) × (any (is b.0 b.1) l ≡ true)
unfolding any
any-bucket t [] h = both_ways (sym h)
any-bucket t (b ∷ l) h =
    ⊎_elim (λ (e : t b ≡ true). (b, e, rw (eq-eqb b.0 b.0 refl, eq-eqb b.1 b.1 refl)))
    (λ (e : t b ≡ false). let (c, p, q) = any-bucket t l (rw e at h) in (c, p, or_right (is c.0 c.1 b) (any (is c.0 c.1) l) q)) (either (t b))

-- the bucket of its own substring
pub is_own : (sub : ℕ → ℕ → ℕ) (i z : ℕ) (b : ℕ × ℕ) → is z (sub z i) b ≡ true → eqb (sub b.0 i) b.1 ≡ true
is_own sub i z b e =
    let at = eqb-true z b.0 (and_left (eqb z b.0) (eqb (sub z i) b.1) e) in
    let v = eqb-true (sub z i) b.1 (and_right (eqb z b.0) (eqb (sub z i) b.1) e) in
    eq-eqb (sub b.0 i) b.1 (ap (λ (z : ℕ). sub z i) (sym at) ∙ v)

-- ---- sums over places R < n, by R % m and R / m

module _ (f : ℕ → ℕ → ℕ) (m : ℕ) where
  blocks_part : (r a : ℕ) → a ≤ m → sum (λ R. f (R % m) (R / m)) (r * m + a) ≡ sum (λ R. f (R % m) (R / m)) (r * m) + sum (λ z. f z r) a
  blocks_part r a h =
      sum_split (λ R. f (R % m) (R / m)) (r * m) a
      ∙ ap (λ (n : ℕ). sum (λ R. f (R % m) (R / m)) (r * m) + n)
      (sum_cong _ _ a (λ i l. let l' : i < m = omega arith in ap₂ f (digits_mod r l') (digits_div r l')))

  blocks : (r : ℕ) → sum (λ R. f (R % m) (R / m)) (r * m) ≡ sum (λ z. sum (f z) r) m
  unfolding sum
  blocks zero = rw zero-mul (sym (sum-zero (λ _. 0) m (λ _ _. refl)))
  blocks (suc r) =
      rw suc-mul (blocks_part r m (le_refl m) ∙ ap (λ (n : ℕ). n + sum (λ z. f z r) m) (blocks r) ∙ sym (sum_plus (λ z. sum (f z) r) (λ z. f z r) m))

  -- up to and with place r * m + a: suc r of each of the first suc a, and r of each of the rest
  pub sum-places : (r a : ℕ) → a < m → sum (λ R. f (R % m) (R / m)) (suc (r * m + a)) ≡ sum (λ z. sum (f z) (cond (leb z a) (suc r) r)) m
  unfolding sum
  sum-places r a h =
      let all : ℕ → ℕ = λ z. sum (f z) r in
      let first : min m (suc a) ≡ suc a = omega arith in
      let rest : m ≡ suc a + (m - suc a) = omega arith in
      let cut : sum all m ≡ sum all (suc a) + sum (λ i. all (suc a + i)) (m - suc a) = ap (sum all) rest ∙ sum_split all (suc a) (m - suc a) in
      ap (sum (λ R. f (R % m) (R / m))) (sym (add-suc (r * m) a)) ∙ blocks_part r (suc a) h
      ∙ omega (arith, blocks r, cut, sum_plus all (λ z. f z r) (suc a))
      ∙ sym (rw first at (sum_cut (λ z. sum (f z) (suc r)) all (suc a) m))
      ∙ sum_cong _ _ m (λ z _. rw (leb_is_ltb z a) (sym (cond_of (sum (f z)) (ltb z (suc a)) (suc r) r)))

-- ---- how many

-- after step R = r * m + a: the tables 0 to a are open to weight r and the rest to r - 1
pub length-opened : (m : ℕ) (len : ℕ → ℕ) (wt : ℕ → ℕ → ℕ) (q : ℕ → ℕ) (r a : ℕ) → a < m
    → length (opened_by m len wt q (suc (r * m + a))) ≡ sum (λ z. sum (λ d. count (λ e. eqb (wt z e) d) (2 ^ len z)) (cond (leb z a) (suc r) r)) m
length-opened m len wt q r a h =
    length-cat (step_by m len wt q) (suc (r * m + a))
    ∙ sum_cong _ _ (suc (r * m + a)) (λ R _. length-map (upto (λ e. eqb (wt (R % m) e) (R / m)) (2 ^ len (R % m))) _)
    ∙ sum-places (λ z d. count (λ e. eqb (wt z e) d) (2 ^ len z)) m r a h

-- under a mask, of which c ones are in table z's substring, radius ρ costs 2 ^ (len z - c) * L(c, ρ) buckets; by the step's number
pub opened_under : (m : ℕ) (len under q : ℕ → ℕ) (R : ℕ) → 0 < m → ((z : ℕ) → under z < 2 ^ len z)
    → length (opened_by m len (λ z e. ones (bit_and e (under z))) q (suc R))
    ≡ sum (λ z. 2 ^ (len z - ones (under z)) * L (ones (under z)) (cond (leb z (R % m)) (R / m + 1) (R / m))) m
opened_under m len under q R h fits =
    let wt : ℕ → ℕ → ℕ = λ z e. ones (bit_and e (under z)) in
    ap (λ (n : ℕ). length (opened_by m len wt q (suc n))) (sym (div-add-mod' R m))
    ∙ length-opened m len wt q (R / m) (R % m) (mod-lt R h)
    ∙ sum_cong _ _ m (λ z _. rw add-one (masks_below (len z) (under z) (fits z) (cond (leb z (R % m)) (suc (R / m)) (R / m))))

-- and where each substring has s bits
pub equal_lengths : (m s r a : ℕ) → a < m → sum (λ z. L s (cond (leb z a) (r + 1) r)) m ≡ (a + 1) * L s (r + 1) + (m - a - 1) * L s r
equal_lengths m s r a h =
    let first : min m (suc a) ≡ suc a = omega arith in
    let others : m - a - 1 ≡ m - suc a = omega arith in
    sum_cong _ _ m (λ z _. rw (leb_is_ltb z a) (cond_of (L s) (ltb z (suc a)) (r + 1) r))
    ∙ rw first at (sum_cut (λ _. L s (r + 1)) (λ _. L s r) (suc a) m)
    ∙ ap₂ (λ (x y : ℕ). x + y) (sum_const (L s (r + 1)) (suc a)) (sum_const (L s r) (m - suc a))
    ∙ rw (others, add-one a)

-- ---- which, and each once

module _ (m : ℕ) (len : ℕ → ℕ) (wt : ℕ → ℕ → ℕ) (q : ℕ → ℕ) (z v : ℕ) where
  times-step : (R : ℕ) → times (is z v) (step_by m len wt q R)
      ≡ one_if (eqb z (R % m) && (ltb (bit_xor (q z) v) (2 ^ len z) && eqb (wt z (bit_xor (q z) v)) (R / m)))
  times-step R =
      times-map (is z v) (λ e. (R % m, bit_xor (q (R % m)) e)) (upto (λ e. eqb (wt (R % m) e) (R / m)) (2 ^ len (R % m)))
      ∙ ⊎_elim
      (λ (e : eqb z (R % m) ≡ true).
      rw (e, ← eqb-true z (R % m) e)
      (times_cong _ _ (upto (λ e. eqb (wt z e) (R / m)) (2 ^ len z)) (λ e. eqb-xor (q z) v e) ∙ once (λ e. eqb (wt z e) (R / m)) (bit_xor (q z) v) (2 ^ len z)))
      (λ (e : eqb z (R % m) ≡ false). rw e (times_never (upto (λ e. eqb (wt (R % m) e) (R / m)) (2 ^ len (R % m))))) (either (eqb z (R % m)))

  module _ (hz : z < m) (hq : q z < 2 ^ len z) where
    -- the step that opens bucket v of table z
    at : ℕ
    at = wt z (bit_xor (q z) v) * m + z

    other : (R : ℕ) → (R ≡ at → ⊥) → times (is z v) (step_by m len wt q R) ≡ 0
    unfolding at
    other R ne =
        times-step R
        ∙ ⊎_elim
        (λ (e : eqb z (R % m) ≡ true).
        rw (e, ne_eqb (wt z (bit_xor (q z) v)) (R / m) (λ o. ne (sym (div-add-mod' R m) ∙ ap₂ (λ (x y : ℕ). x * m + y) (sym o) (sym (eqb-true z (R % m) e)))), and-false))
        (λ (e : eqb z (R % m) ≡ false). rw e) (either (eqb z (R % m)))

    -- bucket v of table z stands once among what the first n steps open where its own step is one of them, and else never
    pub opened_once : v < 2 ^ len z → (n : ℕ) → times (is z v) (opened_by m len wt q n) ≡ one_if (ltb (wt z (bit_xor (q z) v) * m + z) n)
    unfolding at
    opened_once hv n =
        times-cat (is z v) (step_by m len wt q) n
        ∙ ⊎_elim
        (λ (l : at < n).
        sum_at (λ R. times (is z v) (step_by m len wt q R)) at n (λ R _ ne. other R ne) l
        ∙ times-step at
        ∙ rw (
          digits_mod (wt z (bit_xor (q z) v)) hz,
          digits_div (wt z (bit_xor (q z) v)) hz,
          eq-eqb z z refl,
          eq-eqb (wt z (bit_xor (q z) v)) (wt z (bit_xor (q z) v)) refl,
          lt-ltb (bit_xor (q z) v) (2 ^ len z) (xor_lt (len z) (q z) v hq hv),
          lt-ltb at n l,
        ))
        (λ (g : n ≤ at). sum-zero (λ R. times (is z v) (step_by m len wt q R)) n (λ R l. other R (omega arith)) ∙ rw (le-ltb at n g)) (lt-or-le at n)

  too_far : q z < 2 ^ len z → 2 ^ len z ≤ v → 2 ^ len z ≤ bit_xor (q z) v
  too_far hq h =
      ⊎_elim (λ (l : bit_xor (q z) v < 2 ^ len z). absurd (omega (arith, xor_lt (len z) (q z) (bit_xor (q z) v) hq l, xor_undo (q z) v))) (λ g. g)
      (lt-or-le (bit_xor (q z) v) (2 ^ len z))

  -- and a number that is no bucket of its table, or whose table is none, never
  pub opened-none : 0 < m → (m ≤ z) ⊎ ((q z < 2 ^ len z) × (2 ^ len z ≤ v)) → (n : ℕ) → times (is z v) (opened_by m len wt q n) ≡ 0
  opened-none hm c n =
      times-cat (is z v) (step_by m len wt q) n ∙ sum-zero (λ R. times (is z v) (step_by m len wt q R)) n (λ R _. times-step R ∙ never R)
    where
      never : (R : ℕ) → one_if (eqb z (R % m) && (ltb (bit_xor (q z) v) (2 ^ len z) && eqb (wt z (bit_xor (q z) v)) (R / m))) ≡ 0
      never R =
          ⊎_elim (λ (h : m ≤ z). rw (ne_eqb z (R % m) (λ e. omega (arith, mod-lt R hm))))
          (λ (h : (q z < 2 ^ len z) × (2 ^ len z ≤ v)). rw (le-ltb (bit_xor (q z) v) (2 ^ len z) (too_far h.0 h.1), and-false)) c

-- an entry whose distances, substring by substring, add up to at most R is in a bucket that the steps 0 to R open, and is there once
pub found : (m : ℕ) (len : ℕ → ℕ) (wt : ℕ → ℕ → ℕ) (q e : ℕ → ℕ) (R : ℕ) → 0 < m → ((z : ℕ) → z < m → (q z < 2 ^ len z) × (e z < 2 ^ len z))
    → sum (λ z. wt z (bit_xor (q z) (e z))) m ≤ R → (z : ℕ) × (z < m) × (times (is z (e z)) (opened_by m len wt q (suc R)) ≡ 1)
found m len wt q e R hm h l =
    let f = pigeon_step (λ z. wt z (bit_xor (q z) (e z))) m R hm l in
    let z = f.0 in
    (z, f.1, opened_once m len wt q z (e z) f.1 (h z f.1).0 (h z f.1).1 (suc R) ∙ ap one_if (lt-ltb _ (suc R) (omega arith)))
