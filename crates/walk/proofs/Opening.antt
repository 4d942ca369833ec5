-- Buckets are opened in order, up to the first bad one. Assumes nothing.
use mathlib.Core.Path.{◌≡◌, refl, sym, ap, ◌∙◌}
use mathlib.Core.Bool.{true, false, cond, or-false, or_assoc}
use mathlib.Core.List.{List, [], ◌∷◌, ◌++◌, map, map-append}
use Prim.Native.Nat.{ℕ, suc, ◌+◌, ◌≤◌, ◌<◌}
use native.Mathlib.Nat.{add-zero}
use native.Mathlib.Decide.{le_ind}
use native.Mathlib.Omega.{arith}
use lib.Bits.{bit_xor}
use lib.ListN.{length, length-append, length-map}
use Rattle.std.proofs.Common.{Ok, Err}
use Rattle.theory.specs.Lists.{first_from, any, has, upto}
use Rattle.theory.proofs.Lists.{any_append, any_one, any_none}
use Rattle.theory.proofs.Counting.{only, upto-suc, upto-first, upto_next, count-le}
use Rattle.masks.specs.Masks.{has_ones}
use Rattle.scope.specs.declared.Refusal.{Refusal}
use Rattle.scope.specs.declared.Refusal.TheVariants.{BadBucket}
use Rattle.scope.specs.Tables.{Index, n, bucket, bad}
use Rattle.scope.specs.Walk.{Question}
use Rattle.scope.specs.Refusals.{Rows, met, unless}
use Rattle.scope.proofs.Rows.{one_fits, unless-append, unless-none, met-any, all-clear, one_refuses}
use Rattle.codes.specs.Marks.{is_marked}
use Rattle.walk.specs.declared.Aim.{Aim}
use Rattle.walk.specs.declared.Walk.{Walk}
use Rattle.walk.specs.Steps.{Met, lists, around, met_in, Seeing, Sees, Opening}

-- ---- the first bad bucket

abbrev pub Clear : Met
Clear = Ok tt

abbrev pub Refused : Refusal → Met
Refused f = Err f

pub not_both : {A : Type 0} {f : Refusal} → Refused f ≡ Clear → A
not_both e = cc

clear_apart : (f : Refusal) → Refused f ≡ Clear → ⊥
clear_apart f e = not_both e

refused-same : (f g : Refusal) → Refused f ≡ Refused g → f ≡ g
refused-same f g e = cc

-- the walk's outcome decides any answer over the same buckets
pub walk_clear : (rows : Rows) → unless rows Refused Clear ≡ Clear → one_fits rows ≡ false
walk_clear = all-clear Refused Clear clear_apart

pub walk_refused : {A : Type 0} (refused : Refusal → A) (answer : A) (rows : Rows) (f : Refusal) → unless rows Refused Clear ≡ Refused f → unless rows refused answer ≡ refused f
walk_refused refused answer rows f h = one_refuses Refused Clear clear_apart refused-same rows f h refused answer

module _ (x : Index) where
  pub met-none : met_in x [] ≡ Clear
  unfolding met_in unless
  met-none = refl

  pub met_one : (z v : ℕ) → met_in x ((z, v) ∷ []) ≡ cond (bad x z v) (Refused (BadBucket z v)) Clear
  unfolding met_in unless
  met_one z v = refl

  met-append : (l k : List (ℕ × ℕ)) → met_in x (l ++ k) ≡ unless (met x l) Refused (met_in x k)
  unfolding met_in
  met-append l k = ap (λ (rows : Rows). unless rows Refused Clear) (map-append _ l k) ∙ unless-append (met x l) (met x k) Refused Clear

  -- after buckets of which none is bad, the rest decide; after a bad one, nothing does
  pub met_past : (l k : List (ℕ × ℕ)) → met_in x l ≡ Clear → met_in x (l ++ k) ≡ met_in x k
  unfolding met_in
  met_past l k h = met-append l k ∙ unless-none (met x l) Refused (met_in x k) (walk_clear (met x l) h)

  pub met_stays : (l k : List (ℕ × ℕ)) (f : Refusal) → met_in x l ≡ Refused f → met_in x (l ++ k) ≡ Refused f
  unfolding met_in
  met_stays l k f h = met-append l k ∙ walk_refused Refused (met_in x k) (met x l) f h

  -- of clear buckets none is bad
  pub none-bad : (l : List (ℕ × ℕ)) → met_in x l ≡ Clear → any (λ b. bad x b.0 b.1) l ≡ false
  unfolding met_in
  none-bad l h = sym (met-any x l) ∙ walk_clear (met x l) h

-- ---- buckets, one after the other

module _ (ask : Question) (goal : Aim) (w : Walk) (marks : List ℕ) where
  pub opening-none : (tally : List ℕ) → Seeing ask goal w.seen marks tally → Opening ask goal [] w w Clear marks marks tally
  opening-none tally h =
      record {
        met = sym (met-none ask.index);
        clear = λ _. record { opened = sym (add-zero _); marked = λ i. rw any_none (sym (or-false (is_marked marks i))); counted = h };
      }

  -- one bucket: it is bad, or its entries are tested
  pub opening-refused : (z v : ℕ) (r : Walk) (marks' tally' : List ℕ) (f : Refusal) → f ≡ BadBucket z v → bad ask.index z v ≡ true
      → Opening ask goal ((z, v) ∷ []) w r (Refused f) marks marks' tally'
  opening-refused z v r marks' tally' f is b = record { met = sym (rw (met_one, b, is)); clear = λ c. not_both c }

  pub opening_one : (z v : ℕ) (r : Walk) (marks' tally' : List ℕ) → bad ask.index z v ≡ false → r.opened.0 ≡ w.opened.0 + 1
      → Sees ask goal (λ i. has i (bucket ask.index z v)) r.seen marks marks' tally'
      → Opening ask goal ((z, v) ∷ []) w r Clear marks marks' tally'
  opening_one z v r marks' tally' b opened h =
      record { met = sym (rw (met_one, b)); clear = λ _. record { opened = opened; marked = λ i. rw any_one (h.marked i); counted = h.counted } }

  -- the buckets l, and then k
  pub opening_more : (l k : List (ℕ × ℕ)) (r o : Walk) (end : Met) (marks' tally' marks'' tally'' : List ℕ) → Opening ask goal l w r Clear marks marks' tally'
      → Opening ask goal k r o end marks' marks'' tally'' → Opening ask goal (l ++ k) w o end marks marks'' tally''
  opening_more l k r o end marks' tally' marks'' tally'' h g =
      record {
        met = g.met ∙ sym (met_past ask.index l k (sym h.met));
        clear = λ e.
            let a = h.clear refl in
            let b = g.clear e in
            record {
              opened = rw length-append (let i = a.opened in let j = b.opened in omega arith);
              marked = λ i. b.marked i ∙ rw (a.marked i, any_append) (or_assoc (is_marked marks i) (lists ask.index l i) (lists ask.index k i));
              counted = b.counted;
            };
      }

  -- what stands after a bad bucket is not opened
  pub opening-bad : (l k : List (ℕ × ℕ)) (r : Walk) (marks' tally' : List ℕ) (f : Refusal) → Opening ask goal l w r (Refused f) marks marks' tally'
      → Opening ask goal (l ++ k) w r (Refused f) marks marks' tally'
  opening-bad l k r marks' tally' f h = record { met = sym (met_stays ask.index l k f (sym h.met)); clear = λ c. not_both c }

-- ---- the buckets of one step, by their exclusive-or

module _ (z under r sub : ℕ) where
  pub around_few : (k : ℕ) → length (around z under r sub k) ≤ k
  around_few k = rw length-map (count-le (has_ones under r) k)

  around-suc : (k : ℕ) → around z under r sub (suc k) ≡ around z under r sub k ++ map (λ e. (z, bit_xor sub e)) (only (has_ones under r k) k)
  around-suc k = ap (map (λ e. (z, bit_xor sub e))) (upto-suc (has_ones under r) k) ∙ map-append _ (upto (has_ones under r) k) _

  -- a bad bucket among those below k is the first bad of them all
  pub around-bad : (ask : Question) (goal : Aim) (w o : Walk) (marks marks' tally' : List ℕ) (f : Refusal) (k m : ℕ) → k ≤ m
      → Opening ask goal (around z under r sub k) w o (Refused f) marks marks' tally' → Opening ask goal (around z under r sub m) w o (Refused f) marks marks' tally'
  around-bad ask goal w o marks marks' tally' f k m l h =
      le_ind (λ (j : ℕ). Opening ask goal (around z under r sub j) w o (Refused f) marks marks' tally') h
      (λ j _ g. rw around-suc (opening-bad ask goal w marks _ _ o marks' tally' f g)) m l

  -- none up to the first number with r ones under the mask, and one more up to each next one
  pub around-first : (n k : ℕ) → k ≤ first_from (has_ones under r) 0 n → around z under r sub k ≡ []
  around-first n k h = ap (map (λ e. (z, bit_xor sub e))) (upto-first (has_ones under r) n k h)

  pub around-next : (n e k : ℕ) → has_ones under r e ≡ true → e < k → k ≤ first_from (has_ones under r) (e + 1) n
      → around z under r sub k ≡ around z under r sub e ++ (z, bit_xor sub e) ∷ []
  around-next n e k t a h = ap (map (λ e. (z, bit_xor sub e))) (upto_next (has_ones under r) n e k t a h) ∙ map-append _ (upto (has_ones under r) e) _
