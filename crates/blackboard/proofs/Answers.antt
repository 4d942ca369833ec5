-- What the blackboard answers, case by case; and that its count is the number of buckets that the walk opens. Assumes nothing.
use Rattle.std.specs.Prelude.{Result, Ok, Err}
use mathlib.Core.Path.{◌≡◌, refl, sym, ap, ◌∙◌}
use mathlib.Core.Logic.{⊎_elim}
use mathlib.Core.Bool.{true, false, not}
use mathlib.Core.List.{List, [], ◌∷◌, ◌++◌}
use Prim.Native.Nat.{ℕ, ◌+◌, ◌≤◌}
use native.Mathlib.Omega.{arith}
use lib.Dec.{eqb, ltb}
use lib.ListN.{length}
use borrow.Author.Tests.{not-false, eqb-true, ltb-false, eq-eqb, ne_eqb, le-ltb}
use Rattle.theory.specs.Lists.{any}
use Rattle.theory.proofs.Tests.{either, same_arms, or-false_left, or-false_right}
use Rattle.scope.specs.declared.Shape.{Shape}
use Rattle.scope.specs.declared.Opened.{Opened}
use Rattle.scope.specs.declared.Refusal.{Refusal}
use Rattle.scope.specs.declared.Refusal.TheVariants.{Unlisted, Query}
use Rattle.scope.specs.Shape.{q, listed}
use Rattle.scope.specs.Tables.{Index}
use Rattle.scope.specs.Refusals.{Rows, unless, unlisted, wrong_mask, above}
use Rattle.scope.specs.Walk.{Question, question, open_after, open_after_under, opened, opened_count}
use Rattle.scope.specs.Calls.{blackboard_answer, masked_blackboard_answer}
use Rattle.scope.proofs.Masks.{plain_open_after}
use Rattle.scope.proofs.Opening.{open_after_lem}
use Rattle.scope.proofs.Rows.{one_fits, unless-none, passed, refuses_all}

-- ---- by refusals 1 and 4, but for the mask

abbrev pub early : Shape → ℕ → Rows
early sh R = unlisted sh ++ above sh (R ∷ [])

fits_none : (sh : Shape) (R : ℕ) → listed sh ≡ true → R ≤ q sh → one_fits (early sh R) ≡ false
unfolding any
fits_none sh R h l = rw (h, le-ltb (q sh) R l)

pub taken : (sh : Shape) (R : ℕ) → one_fits (early sh R) ≡ false → (listed sh ≡ true) × (R ≤ q sh)
unfolding any
taken sh R h = (not-false _ (or-false_left _ _ h), ltb-false (q sh) R (or-false_left _ _ (or-false_left _ _ (or-false_right (not (listed sh)) _ h))))

module _ (sh : Shape) (R : ℕ) where
  pub answered : one_fits (early sh R) ≡ false → blackboard_answer sh R ≡ Ok (record { 0 = open_after sh R })
  unfolding blackboard_answer
  answered h = unless-none (early sh R) Err (Ok (record { 0 = open_after sh R })) h

  pub refused : {f : Refusal} → Err f ≡ unless (early sh R) Err (Ok sh) → blackboard_answer sh R ≡ Err f
  unfolding blackboard_answer
  refused e = refuses_all (early sh R) sh e (Ok (record { 0 = open_after sh R }))

  module _ (mask : List ℕ) where
    pub masked_answered : one_fits (early sh R) ≡ false → length mask ≡ sh.w → masked_blackboard_answer sh mask R ≡ Ok (record { 0 = open_after_under sh mask R })
    unfolding masked_blackboard_answer unless any
    masked_answered h long = let (ls, l) = taken sh R h in simp (ls, eq-eqb (length mask) sh.w long, le-ltb (q sh) R l)

    pub masked_words : one_fits (early sh R) ≡ false → (length mask ≡ sh.w → ⊥) → masked_blackboard_answer sh mask R ≡ Err Query
    unfolding masked_blackboard_answer unless
    masked_words h ne = let (ls, _) = taken sh R h in simp (ls, ne_eqb (length mask) sh.w ne)

    pub masked_refused : {f : Refusal} → Err f ≡ unless (early sh R) Err (Ok sh) → masked_blackboard_answer sh mask R ≡ Err f
    unfolding masked_blackboard_answer unless any
    masked_refused {f} e =
        ⊎_elim
        (λ (ls : listed sh ≡ true).
        ⊎_elim
        (λ (far : ltb (q sh) R ≡ true).
        let is : ◌≡◌ {A = Result Shape Refusal} (Err f) (Err Query) = rw (ls, far) at e in
        let same : f ≡ Query = cc in
        rw (ls, far, same) (same_arms (not (eqb (length mask) sh.w)) _))
        (λ (near : ltb (q sh) R ≡ false).
        let is : ◌≡◌ {A = Result Shape Refusal} (Err f) (Ok sh) = rw (ls, near) at e in
        absurd (let z : ◌≡◌ {A = ℕ} 0 1 = cc in omega arith))
        (either (ltb (q sh) R)))
        (λ (no : listed sh ≡ false).
        let is : ◌≡◌ {A = Result Shape Refusal} (Err f) (Err Unlisted) = rw no at e in
        let same : f ≡ Unlisted = cc in
        rw (no, same) refl)
        (either (listed sh))

-- ---- what is counted

-- for every listed w and m, and whatever is asked over them: the blackboard's count is the one that a search of steps 0 to R reports, under its mask
pub masked_counts : (ask : Question) (R : ℕ) → listed ask.index.shape ≡ true → length ask.mask ≡ ask.index.shape.w → R ≤ q ask.index.shape
    → masked_blackboard_answer ask.index.shape ask.mask R ≡ Ok (opened_count ask (R + 1))
masked_counts ask R h e l =
    masked_answered ask.index.shape R ask.mask (fits_none ask.index.shape R h l) e ∙ ap (λ (k : ℕ). Ok (record { 0 = k })) (sym (open_after_lem ask R h))

-- and without one
pub counts : (x : Index) (query : List ℕ) (R : ℕ) → listed x.shape ≡ true → R ≤ q x.shape
    → blackboard_answer x.shape R ≡ Ok (opened_count (question x query) (R + 1))
counts x query R h l =
    answered x.shape R (fits_none x.shape R h l)
    ∙ ap (λ (k : ℕ). Ok (record { 0 = k })) (sym (plain_open_after x.shape R h) ∙ sym (open_after_lem (question x query) R h))

same_number : (r : Result Opened Refusal) (o o' : Opened) → r ≡ Ok o → r ≡ Ok o' → o.0 ≡ o'.0
same_number r o o' p p' = let s : o ≡ o' = cc in ap (λ (x : Opened). x.0) s

-- and where it answers at all, its number is that of the buckets that the steps 0 to R open
pub counted : (x : Index) (query : List ℕ) (R : ℕ) (o : Opened) → blackboard_answer x.shape R ≡ Ok o → o.0 ≡ length (opened (question x query) (R + 1))
unfolding blackboard_answer
counted x query R o e =
    let (none, is) = passed (early x.shape R) (record { 0 = open_after x.shape R }) (sym e) in
    let (h, l) = taken x.shape R none in
    same_number (blackboard_answer x.shape R) o (opened_count (question x query) (R + 1)) e (counts x query R h l)

pub masked_counted : (ask : Question) (R : ℕ) (o : Opened) → masked_blackboard_answer ask.index.shape ask.mask R ≡ Ok o → o.0 ≡ length (opened ask (R + 1))
unfolding masked_blackboard_answer any
masked_counted ask R o e =
    let sh = ask.index.shape in
    let (none, is) = passed (unlisted sh ++ wrong_mask sh ask.mask ++ above sh (R ∷ [])) (record { 0 = open_after_under sh ask.mask R }) (sym e) in
    let rest = or-false_right (not (listed sh)) _ none in
    let long = eqb-true _ _ (not-false _ (or-false_left (not (eqb (length ask.mask) sh.w)) _ rest)) in
    let near = ltb-false (q sh) R (or-false_left _ _ (or-false_left _ _ (or-false_right (not (eqb (length ask.mask) sh.w)) _ rest))) in
    same_number (masked_blackboard_answer sh ask.mask R) o (opened_count ask (R + 1)) e (masked_counts ask R (not-false _ (or-false_left _ _ none)) long near)
