-- L5: an entry over the limit is not among the answers. The limit is the worst distance that can still be listed: within r it is r; of the k nearest, and of a verdict, what the
-- entries tell that a walk has tested so far. Assumes nothing.
use mathlib.Core.Path.{◌≡◌, sym, ap, subst, ◌∙◌}
use mathlib.Core.Logic.{◌⊎◌, inl, inr, ⊎_elim}
use mathlib.Core.Bool.{Bool, true, false, ◌&&◌}
use mathlib.Core.List.{List, [], ◌∷◌}
use Prim.Native.Nat.{ℕ, ◌+◌, ◌≤◌, ◌<◌}
use native.Mathlib.Omega.{arith}
use lib.Dec.{eqb, ltb, leb}
use lib.ListN.{take, drop, take-append-drop}
use borrow.Author.Tests.{ne_eqb, lt-ltb, leb-true}
use Rattle.theory.specs.Lists.{count, any, has}
use Rattle.theory.specs.Order.{All}
use Rattle.theory.proofs.Tests.{and_left, and_right, eq-or_ne}
use Rattle.theory.proofs.Counting.{count_imp}
use Rattle.theory.proofs.Elements.{all-any-false, all_front}
use Rattle.theory.proofs.Order.{all_imp, ranked-below, first-near}
use Rattle.theory.proofs.Placing.{length-ranked}
use Rattle.scope.specs.Codes.{code_of}
use Rattle.scope.specs.Shape.{q}
use Rattle.scope.specs.Tables.{n}
use Rattle.scope.specs.Walk.{Question, distance_of, star_of, tested}
use Rattle.scope.specs.Search.{K, nearest_steps, answers, nearest, within_steps, within}
use Rattle.scope.specs.Verdict.{verdict_steps, nearest_rivals}
use Rattle.scope.proofs.Codes.{under-le}
use Rattle.scope.proofs.Stars.{Runner, Told, told}
use Rattle.demands.proofs.Verdict.{no_nearer}

module _ (ask : Question) (limit i : ℕ) (over : limit < distance_of ask i) where
  -- a list of entries within the limit does not have i
  not_in : (l : List ℕ) → All (λ j. distance_of ask j < limit + 1) l → has i l ≡ false
  not_in l h = all-any-false (eqb i) l (all_imp _ _ l (λ j near. ne_eqb i j (λ e. let same = ap (distance_of ask) e in omega arith)) h)

  pub over-within : has i (within ask limit) ≡ false
  unfolding within
  over-within = not_in _ (ranked-below (distance_of ask) (tested ask (within_steps ask.index limit)) (n ask.index) (limit + 1))

  -- `seen` are entries that the walk tests, such as those that it has tested so far

  -- K of them are within the limit
  pub over-nearest : (k : ℕ) (seen : ℕ → Bool) → ((j : ℕ) → seen j ≡ true → tested ask (nearest_steps ask k) j ≡ true)
      → K ask.index k ≤ count (λ j. leb (distance_of ask j) limit && seen j) (n ask.index) → has i (nearest ask k) ≡ false
  unfolding nearest
  over-nearest k seen theirs enough =
      let x = ask.index in
      let D = distance_of ask in
      let test = tested ask (nearest_steps ask k) in
      let near = answers ask test limit in
      let inside = under-le ask.mask (code_of x.shape.w x.codes i) ask.query (q x.shape) in
      let many : count (λ j. leb (D j) limit && seen j) (n x) ≤ count (λ j. ltb (D j) (limit + 1) && test j) (n x) =
      count_imp (λ j. leb (D j) limit && seen j) (λ j. ltb (D j) (limit + 1) && test j) (n x)
      (λ j h.
      let l = leb-true (D j) limit (and_left (leb (D j) limit) (seen j) h) in
      rw (lt-ltb (D j) (limit + 1) (omega arith), theirs j (and_right (leb (D j) limit) (seen j) h))) in
      let same : take (K x k) (answers ask test (q x.shape)) ≡ take (K x k) near =
      first-near D test (n x) (limit + 1) (q x.shape + 1) (K x k) (omega arith) (omega (arith, many, length-ranked (n x) D test (limit + 1))) in
      let within : All (λ j. D j < limit + 1) (take (K x k) near) =
      all_front (λ j. D j < limit + 1) (take (K x k) near) (drop (K x k) near)
      (subst (All (λ j. D j < limit + 1)) (sym (take-append-drop (K x k) near)) (ranked-below D test (n x) (limit + 1))) in
      rw same (not_in (take (K x k) near) within)

  -- two of them, of different stars, are within the limit
  pub over-verdict : (seen : ℕ → Bool) → ((j : ℕ) → seen j ≡ true → tested ask (verdict_steps ask) j ≡ true) → (a b : ℕ) → a < n ask.index → b < n ask.index
      → seen a ≡ true → seen b ≡ true → (star_of ask a ≡ star_of ask b → ⊥) → distance_of ask a ≤ limit → distance_of ask b ≤ limit → has i (nearest_rivals ask) ≡ false
  unfolding nearest_rivals any
  over-verdict seen theirs a b la lb sa sb ne da db = go _ (told ask (tested ask (verdict_steps ask)))
    where
      test : ℕ → Bool
      test j = ltb j (n ask.index) && tested ask (verdict_steps ask) j

      passes : (j : ℕ) → j < n ask.index → seen j ≡ true → test j ≡ true
      passes j l s = rw (lt-ltb j (n ask.index) l, theirs j s)

      -- what stands before an entry within the limit is within it, or is that entry
      near : (f j : ℕ) → distance_of ask j ≤ limit → ((j ≡ f → ⊥) → distance_of ask f ≤ distance_of ask j) → distance_of ask f < limit + 1
      near f j d before = ⊎_elim (λ (e : j ≡ f). rw e at (let y : distance_of ask j < limit + 1 = omega arith in y)) (λ m. let y = before m in omega arith) (eq-or_ne j f)

      go : (l : List ℕ) → Told (star_of ask) (distance_of ask) test l → has i l ≡ false
      go l (Told.nobody e none) = rw e
      go l (Told.someone f k e first (Runner.missing h same)) = absurd (ne (same a (passes a la sa) ∙ sym (same b (passes b lb sb))))
      go l (Told.someone f k e first (Runner.there r h nr m before)) =
          rw (e, h)
          (not_in (f ∷ r ∷ [])
          (near f a da (λ o. no_nearer (distance_of ask) f a (first.before a (passes a la sa) o)), (runner (eq-or_ne (star_of ask a) (star_of ask f)), tt)))
        where
          runner : (star_of ask a ≡ star_of ask f) ⊎ (star_of ask a ≡ star_of ask f → ⊥) → distance_of ask r < limit + 1
          runner (inl s) = near r b db (λ o. no_nearer (distance_of ask) r b (before b (passes b lb sb) (λ p. ne (s ∙ sym p)) o))
          runner (inr s) = near r a da (λ o. no_nearer (distance_of ask) r a (before a (passes a la sa) s o))
