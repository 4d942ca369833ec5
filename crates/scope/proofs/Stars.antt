-- Laws of stars: when entries have two different ones, and which entry is the nearest, and the nearest of another star. Assumes nothing.
use mathlib.Core.Path.{◌≡◌, refl, sym, ap, subst, ◌∙◌}
use mathlib.Core.Logic.{⊎_elim}
use mathlib.Core.Bool.{Bool, true, false, not, ◌&&◌}
use mathlib.Core.List.{List, [], ◌∷◌}
use Prim.Native.Nat.{ℕ, ◌+◌, ◌<◌}
use native.Mathlib.Omega.{arith}
use lib.Dec.{eqb, ltb}
use borrow.Author.Tests.{eq-eqb, ne_eqb, eqb-true, eqb-false, lt-ltb}
use Rattle.theory.specs.Lists.{upto, any, has}
use Rattle.theory.proofs.Tests.{either, eq-or_ne, both_ways, or-true, or_left, or_right, one_if_positive}
use Rattle.theory.proofs.Counting.{any-upto, any-upto_at}
use Rattle.theory.proofs.Times.{any-times}
use Rattle.theory.proofs.Order.{Sorted, Before, ranked_sorted, ranked_once}
use Rattle.theory.proofs.Elements.{all-has}
use Rattle.scope.specs.Codes.{code_of}
use Rattle.scope.specs.Shape.{q}
use Rattle.scope.specs.Tables.{n}
use Rattle.scope.specs.Walk.{Question, distance_of, star_of}
use Rattle.scope.specs.Search.{answers}
use Rattle.scope.specs.Verdict.{other_than, two_stars, first_other, rivals}
use Rattle.scope.proofs.Codes.{under-le}

-- ---- two different stars

module _ (star : ℕ → ℕ) where
  pub other_yes : (s i : ℕ) → (star i ≡ s → ⊥) → other_than star s i ≡ true
  other_yes s i ne = rw (ne_eqb (star i) s ne)

  pub other_no : (s i : ℕ) → other_than star s i ≡ true → star i ≡ s → ⊥
  other_no s i h e = both_ways (sym h ∙ ap not (eq-eqb (star i) s e))

  module _ (p : ℕ → Bool) (n : ℕ) where
    pub two_stars_yes : (i j : ℕ) → i < n → p i ≡ true → j < n → p j ≡ true → (star j ≡ star i → ⊥) → two_stars star (upto p n) ≡ true
    unfolding two_stars
    two_stars_yes i j li pi lj pj ne =
        any-upto (λ i. any (other_than star (star i)) (upto p n)) p n i li pi (any-upto (other_than star (star i)) p n j lj pj (other_yes (star i) j ne))

    -- one of the two has another star than s
    pub two_stars-other : two_stars star (upto p n) ≡ true → (s : ℕ) → (i : ℕ) × (i < n) × (p i ≡ true) × (star i ≡ s → ⊥)
    unfolding two_stars
    two_stars-other h s =
        let (i, li, pi, hi) = any-upto_at (λ i. any (other_than star (star i)) (upto p n)) p n h in
        let (j, lj, pj, hj) = any-upto_at (other_than star (star i)) p n hi in
        ⊎_elim (λ (e : star i ≡ s). (j, lj, pj, λ k. other_no (star i) j hj (k ∙ sym e))) (λ (ne : star i ≡ s → ⊥). (i, li, pi, ne)) (eq-or_ne (star i) s)

-- ---- the nearest, and the nearest of another star

module _ (star dist : ℕ → ℕ) where
  -- entry a passes, and stands before all others that do
  pub record Foremost (test : ℕ → Bool) (a : ℕ) : Type 0 where
    pub passes : test a ≡ true
    pub before : (j : ℕ) → test j ≡ true → (j ≡ a → ⊥) → Before dist a j

  -- k holds the foremost of those that pass and have another star than s, or nothing where there is none
  pub data Runner (s : ℕ) (test : ℕ → Bool) (k : List ℕ) : Type 0 where
    missing : k ≡ [] → ((j : ℕ) → test j ≡ true → star j ≡ s) → Runner s test k
    there : (b : ℕ) → k ≡ b ∷ [] → (star b ≡ s → ⊥) → test b ≡ true
        → ((j : ℕ) → test j ≡ true → (star j ≡ s → ⊥) → (j ≡ b → ⊥) → Before dist b j) → Runner s test k

  -- l holds the foremost of those that pass, and its runner-up
  pub data Told (test : ℕ → Bool) (l : List ℕ) : Type 0 where
    nobody : l ≡ [] → ((j : ℕ) → test j ≡ false) → Told test l
    someone : (a : ℕ) (k : List ℕ) → l ≡ a ∷ k → Foremost test a → Runner (star a) test k → Told test l

  -- ---- of a list in order

  runner_skip : (s i : ℕ) (l k : List ℕ) → star i ≡ s → Runner s (λ j. has j l) k → Runner s (λ j. has j (i ∷ l)) k
  unfolding any
  runner_skip s i l k e (Runner.missing h f) =
      Runner.missing h (λ j m. ⊎_elim (λ p. ap star (eqb-true j i p) ∙ e) (λ p. f j p) (or-true (eqb j i) (has j l) m))
  runner_skip s i l k e (Runner.there b h ne m f) =
      Runner.there b h ne (or_right (eqb b i) (has b l) m)
      (λ j m nj nb. ⊎_elim (λ p. absurd (nj (ap star (eqb-true j i p) ∙ e))) (λ p. f j p nj nb) (or-true (eqb j i) (has j l) m))

  runner_here : (s i : ℕ) (l : List ℕ) → Sorted (Before dist) (i ∷ l) → (star i ≡ s → ⊥) → Runner s (λ j. has j (i ∷ l)) (i ∷ [])
  unfolding any
  runner_here s i l h ne =
      Runner.there i refl ne (or_left (eqb i i) (has i l) (eq-eqb i i refl))
      (λ j m _ nj. ⊎_elim (λ p. absurd (nj (eqb-true j i p))) (λ p. all-has (Before dist i) j l h.0 p) (or-true (eqb j i) (has j l) m))

  pub runner : (s : ℕ) (l : List ℕ) → Sorted (Before dist) l → Runner s (λ j. has j l) (first_other star s l)
  unfolding first_other any
  runner s [] h = Runner.missing refl (λ j e. both_ways (sym e))
  runner s (i ∷ l) h =
      ⊎_elim (λ (e : eqb (star i) s ≡ true). rw e (runner_skip s i l (first_other star s l) (eqb-true (star i) s e) (runner s l h.1)))
      (λ (e : eqb (star i) s ≡ false). rw e (runner_here s i l h (eqb-false (star i) s e))) (either (eqb (star i) s))

  rivals-told : (l : List ℕ) → Sorted (Before dist) l → Told (λ j. has j l) (rivals star l)
  unfolding rivals any
  rivals-told [] h = Told.nobody refl (λ j. refl)
  rivals-told (a ∷ l) h =
      Told.someone a (first_other star (star a) l) refl
      (record {
        passes = or_left (eqb a a) (has a l) (eq-eqb a a refl);
        before = λ j m ne. ⊎_elim (λ p. absurd (ne (eqb-true j a p))) (λ p. all-has (Before dist a) j l h.0 p) (or-true (eqb j a) (has j l) m);
      })
      (runner_skip (star a) a l (first_other star (star a) l) refl (runner (star a) l h.1))

-- ---- of the answers

module _ (ask : Question) (keep : ℕ → Bool) where
  -- every kept entry is one
  pub has-answers : (j : ℕ) → has j (answers ask keep (q ask.index.shape)) ≡ (ltb j (n ask.index) && keep j)
  has-answers j =
      let sh = ask.index.shape in
      any-times (eqb j) (answers ask keep (q sh)) ∙ ap (ltb 0) (ranked_once (distance_of ask) keep (n ask.index) j (q sh + 1))
      ∙ one_if_positive (ltb j (n ask.index) && (ltb (distance_of ask j) (q sh + 1) && keep j))
      ∙ rw (lt-ltb (distance_of ask j) (q sh + 1) (omega (arith, under-le ask.mask (code_of sh.w ask.index.codes j) ask.query (q sh))))

  pub told : Told (star_of ask) (distance_of ask) (λ j. ltb j (n ask.index) && keep j) (rivals (star_of ask) (answers ask keep (q ask.index.shape)))
  told =
      let sh = ask.index.shape in
      subst (λ (t : ℕ → Bool). Told (star_of ask) (distance_of ask) t (rivals (star_of ask) (answers ask keep (q sh)))) (λ k j. has-answers j k)
      (rivals-told (star_of ask) (distance_of ask) (answers ask keep (q sh)) (ranked_sorted (distance_of ask) keep (n ask.index) (q sh + 1)))
