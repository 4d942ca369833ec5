-- An entry comes in among the rivals, and when they tell that two stars are near. Assumes nothing.
use mathlib.Core.Path.{◌≡◌, refl, sym, subst, ◌∙◌}
use mathlib.Core.Logic.{inl, inr, ⊎_elim}
use mathlib.Core.Bool.{Bool, true, false, ◌&&◌, ◌||◌}
use Prim.Native.Nat.{ℕ, ◌*◌, ◌≤◌, ◌<◌}
use native.Mathlib.Omega.{arith}
use lib.Dec.{eqb, ltb}
use borrow.Author.Tests.{eq-eqb, eqb-true, ltb-true, lt-ltb}
use Rattle.theory.specs.Lists.{upto}
use Rattle.theory.proofs.Tests.{or_left, or_right, or-true, and_left, and_right, same_test, both_ways}
use Rattle.scope.specs.Verdict.{two_stars}
use Rattle.scope.proofs.Stars.{two_stars_yes, two_stars-other}
use Rattle.walk.specs.declared.Rivals.{Rivals}
use Rattle.walk.specs.Rivals.{standing, nobody, Best}

-- ---- one entry more passes

module _ (i : ℕ) (test test' : ℕ → Bool) (same : (j : ℕ) → test' j ≡ (test j || eqb j i)) where
  kept : (j : ℕ) → test j ≡ true → test' j ≡ true
  kept j h = same j ∙ or_left (test j) (eqb j i) h

  now : test' i ≡ true
  now = same i ∙ or_right (test i) (eqb i i) (eq-eqb i i refl)

  -- what holds of those before, and of i, holds of all
  each : (P : ℕ → Type 0) → ((j : ℕ) → test j ≡ true → P j) → P i → (j : ℕ) → test' j ≡ true → P j
  each P old new j h = ⊎_elim (λ e. old j e) (λ e. subst P (sym (eqb-true j i e)) new) (or-true (test j) (eqb j i) (sym (same j) ∙ h))

module _ (star stand : ℕ → ℕ) (test test' : ℕ → Bool) (i x : ℕ) (is : stand i ≡ x) (same : (j : ℕ) → test' j ≡ (test j || eqb j i)) (r : Rivals)
    (b : Best star stand test r) where
  -- it stands behind the runner-up, or behind the first with the first's star
  pub stays : r.first.0 ≤ x → ((star i ≡ r.star → ⊥) → r.other.0 ≤ x) → Best star stand test' r
  stays l k =
      record {
        order = b.order;
        first = each i test test' same (λ j. r.first.0 ≤ stand j) b.first (omega arith);
        whose = ⊎_elim inl (λ w. inr (w.0, kept i test test' same w.0 w.1, w.2, w.3)) b.whose;
        other = each i test test' same (λ j. (star j ≡ r.star → ⊥) → r.other.0 ≤ stand j) b.other (λ ne. omega (arith, k ne));
        another = ⊎_elim inl (λ w. inr (w.0, kept i test test' same w.0 w.1, w.2, w.3)) b.another;
      }

  pub stays_behind : r.other.0 ≤ x → Best star stand test' r
  stays_behind l = stays (omega (arith, b.order.0)) (λ _. l)

-- where none passes
pub best_none : (star stand : ℕ → ℕ) (test : ℕ → Bool) → ((i : ℕ) → test i ≡ false) → (r : Rivals) → r.first.0 ≡ nobody → r.other.0 ≡ nobody → Best star stand test r
best_none star stand test none r f o =
    record {
      order = (omega arith, omega arith);
      first = λ i h. both_ways (sym h ∙ none i);
      whose = inl f;
      other = λ i h _. both_ways (sym h ∙ none i);
      another = inl o;
    }

-- the tests agree
pub best_cong : (star stand : ℕ → ℕ) (test test' : ℕ → Bool) → ((i : ℕ) → test i ≡ test' i) → (r : Rivals) → Best star stand test r → Best star stand test' r
best_cong star stand test test' same r b = subst (λ (t : ℕ → Bool). Best star stand t r) (λ k j. same j k) b

-- ---- entries of two stars are nearer than N where the runner-up is

module _ (star distance : ℕ → ℕ) (test : ℕ → Bool) (n N : ℕ) (few : n ≤ 65536) (early : N ≤ 256) (theirs : (i : ℕ) → test i ≡ true → i < n) (r : Rivals)
    (b : Best star (standing distance) test r) where
  -- an entry whose standing is low enough
  nearer : (i : ℕ) → test i ≡ true → standing distance i < 65536 * N → (ltb (distance i) N && test i) ≡ true
  nearer i h l = rw (lt-ltb (distance i) N (omega arith), h)

  low : (i : ℕ) → (ltb (distance i) N && test i) ≡ true → standing distance i < 65536 * N
  low i h = omega (arith, ltb-true (distance i) N (and_left (ltb (distance i) N) (test i) h), theirs i (and_right (ltb (distance i) N) (test i) h))

  there : r.other.0 < 65536 * N → two_stars star (upto (λ i. ltb (distance i) N && test i) n) ≡ true
  there l =
      ⊎_elim (λ (e : r.other.0 ≡ nobody). absurd (omega arith))
      (λ w. ⊎_elim (λ (e : r.first.0 ≡ nobody). absurd (omega (arith, b.order.0)))
      (λ v.
      two_stars_yes star (λ i. ltb (distance i) N && test i) n v.0 w.0 (theirs v.0 v.1) (nearer v.0 v.1 (omega (arith, v.2, b.order.0)))
      (theirs w.0 w.1) (nearer w.0 w.1 (omega (arith, w.2))) (λ e. w.3 (e ∙ v.3))) b.whose) b.another

  back : two_stars star (upto (λ i. ltb (distance i) N && test i) n) ≡ true → r.other.0 < 65536 * N
  back h =
      let (i, _, p, ne) = two_stars-other star (λ i. ltb (distance i) N && test i) n h r.star in
      omega (arith, low i p, b.other i (and_right (ltb (distance i) N) (test i) p) ne)

  pub two_near : ltb r.other.0 (65536 * N) ≡ two_stars star (upto (λ i. ltb (distance i) N && test i) n)
  two_near = same_test _ _ (λ e. there (ltb-true r.other.0 (65536 * N) e)) (λ e. lt-ltb r.other.0 (65536 * N) (back e))
