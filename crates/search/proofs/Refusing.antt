-- Refusals 1 to 5 in order, and what holds once none of them fits. Assumes nothing.
use Rattle.std.specs.Prelude.{⊤, Result, Ok, Err}
use mathlib.Core.Path.{◌≡◌, refl, sym, ap, ◌∙◌}
use mathlib.Core.Bool.{Bool, true, false, not}
use mathlib.Core.List.{List, [], ◌∷◌, ◌++◌}
use Prim.Native.Nat.{ℕ, ◌≤◌}
use lib.Dec.{eqb, ltb}
use lib.ListN.{length}
use borrow.Author.Tests.{ltb-false}
use Rattle.theory.specs.Lists.{any}
use Rattle.theory.proofs.Lists.{any_append}
use Rattle.theory.proofs.Tests.{or-false_left, or-false_right}
use Rattle.scope.specs.declared.Refusal.{Refusal}
use Rattle.scope.specs.Shape.{q}
use Rattle.scope.specs.Tables.{Index, n}
use Rattle.scope.specs.Walk.{Question, masked}
use Rattle.scope.specs.Refusals.{Rows, refusal, changes, unless, one_to_three, wrong_query, wrong_mask, above, few_marks, one_to_five, mark_words, allowed}
use Rattle.scope.proofs.Rows.{one_fits, unless-append, unless-none, unless_past, all-clear, one_refuses, not-refused}
use Rattle.walk.proofs.Asked.{of_asked}

-- ---- by the outcome of a function that gives refusals

pub not_fine : {A : Type 0} {f : Refusal} → ◌≡◌ {A = Result ⊤ Refusal} (Err f) (Ok tt) → A
not_fine e = cc

fine_apart : (f : Refusal) → ◌≡◌ {A = Result ⊤ Refusal} (Err f) (Ok tt) → ⊥
fine_apart f e = not_fine e

refused-same : (f g : Refusal) → ◌≡◌ {A = Result ⊤ Refusal} (Err f) (Err g) → f ≡ g
refused-same f g e = cc

pub none_fits : (rows : Rows) → allowed rows ≡ Ok tt → one_fits rows ≡ false
none_fits = all-clear Err (Ok tt) fine_apart

pub one_fits_lem : {A : Type 0} (refused : Refusal → A) (answer : A) (rows : Rows) (f : Refusal) → allowed rows ≡ Err f → unless rows refused answer ≡ refused f
one_fits_lem refused answer rows f h = one_refuses Err (Ok tt) fine_apart refused-same rows f h refused answer

-- none fits where it gave an answer, which is the one in hand
pub given : {B : Type 0} {b r : B} (rows : Rows) → ◌≡◌ {A = Result B Refusal} (Ok r) (unless rows Err (Ok b)) → (one_fits rows ≡ false) × (r ≡ b)
unfolding unless any
given [] e = (refl, cc)
given ((true, f) ∷ rows) e = cc
given ((false, f) ∷ rows) e = given rows e

-- and a refusal is any answer's
pub refuses : {A B : Type 0} (b : B) {f : Refusal} (rows : Rows) → ◌≡◌ {A = Result B Refusal} (Err f) (unless rows Err (Ok b))
    → (refused : Refusal → A) (answer : A) → unless rows refused answer ≡ refused f
unfolding unless
refuses b [] e refused answer = cc
refuses b ((true, g) ∷ rows) e refused answer = ap refused (cc)
refuses b ((false, g) ∷ rows) e refused answer = refuses b rows e refused answer

-- refusals that change no list
pub keeps : (rows : Rows) (f : Refusal) → any (λ (row : Bool × Refusal). changes (refusal row.1).0) rows ≡ false → allowed rows ≡ Err f
    → changes (refusal f).0 ≡ false
keeps rows f k h = not-refused Err (Ok tt) fine_apart refused-same rows f h (λ g. changes (refusal g).0) k

-- ---- refusals 1 to 3, and then 4 and 5

abbrev pub four_and_five : Index → (query mask limits marks : List ℕ) → Rows
four_and_five x query mask limits marks = wrong_query x.shape query ++ wrong_mask x.shape mask ++ above x.shape limits ++ few_marks x marks

module _ (x : Index) (query mask limits marks : List ℕ) {A : Type 0} (refused : Refusal → A) (answer : A) where
  pub first_three : {f : Refusal} → ◌≡◌ {A = Result Index Refusal} (Err f) (unless (one_to_three x) Err (Ok x)) → unless (one_to_five x query mask limits marks) refused answer ≡ refused f
  first_three e = unless-append (one_to_three x) (four_and_five x query mask limits marks) refused answer ∙ refuses x (one_to_three x) e refused _

  pub past_three : one_fits (one_to_three x) ≡ false → unless (one_to_five x query mask limits marks) refused answer ≡ unless (four_and_five x query mask limits marks) refused answer
  past_three h = unless_past (one_to_three x) (four_and_five x query mask limits marks) refused answer h

  module _ (three : one_fits (one_to_three x) ≡ false) where
    pub first_four : {B : Type 0} (b : B) {f : Refusal} → ◌≡◌ {A = Result B Refusal} (Err f) (unless (wrong_query x.shape query ++ wrong_mask x.shape mask) Err (Ok b))
        → unless (one_to_five x query mask limits marks) refused answer ≡ refused f
    first_four b e =
        past_three three ∙ unless-append (wrong_query x.shape query ++ wrong_mask x.shape mask) (above x.shape limits ++ few_marks x marks) refused answer
        ∙ refuses b (wrong_query x.shape query ++ wrong_mask x.shape mask) e refused _

    pub past_four : one_fits (wrong_query x.shape query ++ wrong_mask x.shape mask) ≡ false
        → unless (one_to_five x query mask limits marks) refused answer ≡ unless (above x.shape limits ++ few_marks x marks) refused answer
    past_four h = past_three three ∙ unless_past (wrong_query x.shape query ++ wrong_mask x.shape mask) (above x.shape limits ++ few_marks x marks) refused answer h

-- the same of a question that was not accepted
pub not_accepted : (x : Index) (query mask limits marks : List ℕ) {f : Refusal}
    → ◌≡◌ {A = Result Question Refusal} (Err f) (unless (one_to_five x query mask limits marks) Err (Ok (masked x query mask)))
    → allowed (one_to_five x query mask limits marks) ≡ Err f
not_accepted x query mask limits marks e = refuses (masked x query mask) (one_to_five x query mask limits marks) e Err (Ok tt)

-- ---- what holds once none of them fits

-- none of 1 to 5 fits, but for the answer lists: the question in hand is the one that is asked, and w words of marks are all that it needs, and lent
pub record Fit (x : Index) (query mask limits marks : List ℕ) (ask : Question) (w : ℕ) : Type 0 where
  pub is : ask ≡ masked x query mask
  pub none : allowed (one_to_five x query mask limits marks) ≡ Ok tt
  pub limited : any (λ r. ltb (q x.shape) r) limits ≡ false
  pub room : mark_words (n x) ≤ length marks
  pub words : w ≡ mark_words (n x)
  pub lent : w ≤ length marks

pub accepted : (x : Index) (query mask limits marks : List ℕ) {ask inside : Question} {w : ℕ}
    → ◌≡◌ {A = Result Question Refusal} (Ok ask) (unless (one_to_five x query mask limits marks) Err (Ok (masked x query mask)))
    → inside ≡ ask → w ≡ mark_words (n inside.index) → Fit x query mask limits marks ask w
unfolding any
accepted x query mask limits marks e inside long =
    let rows = one_to_five x query mask limits marks in
    let (none, is) = given rows e in
    let both = sym (any_append (λ (row : Bool × Refusal). row.0) (one_to_three x) (four_and_five x query mask limits marks)) ∙ none in
    let four = or-false_right (one_fits (one_to_three x)) _ both in
    let mask_four = or-false_right (not (eqb (length query) x.shape.w)) _ four in
    let five = or-false_right (not (eqb (length mask) x.shape.w)) _ mask_four in
    let room = ltb-false _ _ (or-false_left _ _ (or-false_right (any (λ r. ltb (q x.shape) r) limits) _ five)) in
    let words = rw is at (of_asked (λ x. mark_words (n x)) inside long) in
    record {
      is = is;
      none = unless-none rows Err (Ok tt) none;
      limited = or-false_left (any (λ r. ltb (q x.shape) r) limits) _ five;
      room = room;
      words = words;
      lent = rw words room;
    }
