-- From the walk's rivals to the verdict. Assumes nothing.
use Rattle.std.specs.Prelude.{Result, Ok, Err}
use mathlib.Core.Path.{◌≡◌, refl, sym, ap, subst, ◌∙◌}
use mathlib.Core.Logic.{inl, inr, ⊎_elim}
use mathlib.Core.Bool.{Bool, true, false, ◌&&◌, cond, and-false}
use mathlib.Core.List.{List, [], ◌∷◌, ◌++◌}
use Prim.Native.Nat.{ℕ, max, ◌≤◌, ◌<◌}
use native.Mathlib.Omega.{arith}
use lib.Dec.{eqb, ltb}
use lib.ListN.{drop}
use borrow.Author.Tests.{lt-ltb}
use Rattle.theory.specs.Lists.{padded}
use Rattle.theory.proofs.Tests.{either, eq-or_ne, both_ways}
use Rattle.theory.proofs.Lists.{length-padded}
use Rattle.theory.proofs.Order.{Before}
use Rattle.scope.specs.declared.Refusal.{Refusal}
use Rattle.scope.specs.declared.Refusal.TheVariants.{BadBucket}
use Rattle.scope.specs.declared.Verdict.{Verdict}
use Rattle.scope.specs.declared.VerdictReport.{VerdictReport}
use Rattle.scope.specs.Codes.{code_of}
use Rattle.scope.specs.Shape.{q}
use Rattle.scope.specs.Tables.{Index, n, bad}
use Rattle.scope.specs.Walk.{Question, distance_of, star_of, opened, tested}
use Rattle.scope.specs.Verdict.{verdict_of, verdict_steps, nearest_rivals}
use Rattle.scope.specs.Refusals.{of_judged, changes, met, unless, one_to_five, mark_words, lent, allowed}
use Rattle.scope.specs.Calls.{handed, walked, judges, verdict_report, verdict_answer, verdict_end}
use Rattle.scope.proofs.Rows.{unless-append, unless-none, two_limits}
use Rattle.scope.proofs.Codes.{under-le}
use Rattle.scope.proofs.Shapes.{facts}
use Rattle.scope.proofs.Stars.{Foremost, Runner, Told, told}
use Rattle.walk.specs.declared.Aim.TheVariants as aim
use Rattle.walk.specs.declared.Rivals.{Rivals}
use Rattle.walk.specs.declared.Walk.{Walk}
use Rattle.walk.specs.Rivals.{standing, nobody, Best}
use Rattle.walk.specs.Asked.{Asked}
use Rattle.walk.specs.Steps.{met_in, Ended}
use Rattle.walk.proofs.Opening.{walk_clear, walk_refused}
use Rattle.search.specs.Judge.{Its, Stand}
use Rattle.search.specs.Past.{verdict_found}
use Rattle.search.proofs.Refusing.{none_fits, one_fits_lem}
use Rattle.search.proofs.Answering.{early_keeps}

-- ---- the best two of those that pass are the rivals of their list

module _ (star dist : ℕ → ℕ) (test : ℕ → Bool) (few : (i : ℕ) → test i ≡ true → i < 65536) (low : (i : ℕ) → test i ≡ true → dist i ≤ 256) (r : Rivals)
    (b : Best star (standing dist) test r) where
  -- what stands before stands lower
  lower : (i j : ℕ) → test i ≡ true → Before dist i j → standing dist i < standing dist j
  lower i j h (inl l) = omega (arith, few i h)
  lower i j h (inr l) = omega (arith, l.0, l.1)

  its : (x i : ℕ) → test i ≡ true → x ≡ standing dist i → Its dist x i
  its x i h e = record { is = e; few = few i h; somebody = omega (arith, few i h, low i h) }

  first_is : (a : ℕ) → Foremost star dist test a → (r.first.0 ≡ standing dist a) × (star a ≡ r.star)
  first_is a f =
      ⊎_elim (λ (e : r.first.0 ≡ nobody). absurd (omega (arith, b.first a f.passes, (its (standing dist a) a f.passes refl).somebody)))
      (λ w.
      ⊎_elim (λ (e : w.0 ≡ a). (w.2 ∙ ap (standing dist) e, sym (ap star e) ∙ w.3))
      (λ (ne : w.0 ≡ a → ⊥). absurd (omega (arith, lower a w.0 f.passes (f.before w.0 w.1 ne), w.2, b.first a f.passes))) (eq-or_ne w.0 a))
      b.whose

  other_is : (a c : ℕ) → star a ≡ r.star → (star c ≡ star a → ⊥) → test c ≡ true
      → ((j : ℕ) → test j ≡ true → (star j ≡ star a → ⊥) → (j ≡ c → ⊥) → Before dist c j) → r.other.0 ≡ standing dist c
  other_is a c s ne m before =
      let least = b.other c m (λ p. ne (p ∙ sym s)) in
      ⊎_elim (λ (e : r.other.0 ≡ nobody). absurd (omega (arith, (its (standing dist c) c m refl).somebody)))
      (λ w.
      ⊎_elim (λ (e : w.0 ≡ c). w.2 ∙ ap (standing dist) e)
      (λ (n : w.0 ≡ c → ⊥). absurd (omega (arith, lower c w.0 m (before w.0 w.1 (λ p. w.3 (p ∙ s)) n), w.2))) (eq-or_ne w.0 c))
      b.another

  stand : (l : List ℕ) → Told star dist test l → Stand star dist r l
  stand l (Told.nobody e none) = rw e (⊎_elim (λ x. x) (λ w. both_ways (sym w.1 ∙ none w.0)) b.whose)
  stand l (Told.someone a k e f (Runner.missing h same)) =
      let (first, s) = first_is a f in
      rw (e, h) (its r.first.0 a f.passes first, s, ⊎_elim (λ x. x) (λ w. absurd (w.3 (same w.0 w.1 ∙ s))) b.another)
  stand l (Told.someone a k e f (Runner.there c h ne m before)) =
      let (first, s) = first_is a f in
      rw (e, h) (its r.first.0 a f.passes first, s, its r.other.0 c m (other_is a c s ne m before))

-- ---- after the walk

module _ (ask : Question) (w : Walk) (marks tally : List ℕ) (a : Asked ask) (e : Ended ask aim.TwoStars (verdict_steps ask) w marks tally) where
  abbrev seen : ℕ → Bool
  seen i = tested ask (verdict_steps ask) i

  entry : (i : ℕ) → seen i ≡ true → i < n ask.index
  entry i h = e.theirs i (e.marked i ∙ h)

  seen_is : (i : ℕ) → (ltb i (n ask.index) && seen i) ≡ seen i
  seen_is i =
      ⊎_elim (λ (h : seen i ≡ true). rw (lt-ltb i (n ask.index) (entry i h))) (λ (h : seen i ≡ false). rw h (and-false (ltb i (n ask.index)))) (either (seen i))

  pub rivals_stand : Stand (star_of ask) (distance_of ask) w.seen.rivals (nearest_rivals ask)
  unfolding nearest_rivals
  rivals_stand =
      let sh = ask.index.shape in
      stand (star_of ask) (distance_of ask) seen (λ i h. let few = a.lent.few in omega (arith, entry i h))
      (λ i _. let f = (facts sh a.lent.known).few_words in omega (arith, under-le ask.mask (code_of sh.w ask.index.codes i) ask.query (q sh)))
      w.seen.rivals e.left _
      (subst (λ (t : ℕ → Bool). Told (star_of ask) (distance_of ask) t (nearest_rivals ask)) (λ k j. seen_is j k) (told ask seen))

module _ (ask : Question) (t g : ℕ) where
  abbrev given : Result VerdictReport Refusal
  given = Ok (verdict_report ask t g (verdict_steps ask) (nearest_rivals ask))

  pub found_refused : (f : Refusal) → met_in ask.index (opened ask (verdict_steps ask)) ≡ Err f → Err f ≡ verdict_found ask t g
  unfolding verdict_found met_in
  found_refused f e = sym (walk_refused Err given (met ask.index (opened ask (verdict_steps ask))) f e)

  pub found_given : (w : Walk) (marks tally : List ℕ)
      → (met_in ask.index (opened ask (verdict_steps ask)) ≡ Ok tt) × Ended ask aim.TwoStars (verdict_steps ask) w marks tally
      → (v : Verdict) → v ≡ verdict_of (star_of ask) (distance_of ask) t g (nearest_rivals ask)
      → Ok (record { verdict = v; opened = w.opened; tested = w.seen.tested }) ≡ verdict_found ask t g
  unfolding verdict_found met_in verdict_report
  found_given w marks tally (e, a) v is =
      let rows = met ask.index (opened ask (verdict_steps ask)) in
      let same : record { verdict = v; opened = w.opened; tested = w.seen.tested } ≡ verdict_report ask t g (verdict_steps ask) (nearest_rivals ask) =
      λ i. record { verdict = is i; opened = a.opened i; tested = a.tested i } in
      ap Ok same ∙ sym (unless-none rows Err given (walk_clear rows e))

-- ---- the whole call

nothing : (b : Bool) → ◌≡◌ {A = List ℕ} (cond b [] []) []
nothing true = refl
nothing false = refl

zeros : (number P : ℕ) (old : List ℕ) → changes number ≡ true → lent number P [] old ≡ padded P [] ++ drop P old
unfolding lent
zeros number P old h = rw (h, nothing (eqb number 7)) (ap (λ (k : ℕ). padded P [] ++ drop k old) (length-padded P []))

-- 0 or 7
changing : (x : Index) (l : List (ℕ × ℕ)) (rep : VerdictReport) → changes (of_judged (unless (met x l) Err (Ok rep))).0 ≡ true
unfolding unless
changing x [] rep = refl
changing x (b ∷ l) rep = go (changing x l rep) (bad x b.0 b.1)
  where
    go : changes (of_judged (unless (met x l) Err (Ok rep))).0 ≡ true → (t : Bool)
        → changes (of_judged (cond t (Err (BadBucket b.0 b.1)) (unless (met x l) Err (Ok rep)))).0 ≡ true
    go ih true = refl
    go ih false = ih

module _ (ask : Question) (marks : List ℕ) (t g : ℕ) where
  answer_is : verdict_answer ask marks t g ≡ unless (handed ask (t ∷ g ∷ []) marks) Err (verdict_found ask t g)
  unfolding verdict_answer verdict_found
  answer_is = unless-append (handed ask (t ∷ g ∷ []) marks) (walked ask (verdict_steps ask)) Err _

  pub verdict_early : (f : Refusal) → allowed (one_to_five ask.index ask.query ask.mask (max t g ∷ []) marks) ≡ Err f
      → judges (Err f) marks ≡ verdict_end ask marks t g
  unfolding verdict_end lent
  verdict_early f e =
      let e' : allowed (one_to_five ask.index ask.query ask.mask (t ∷ g ∷ []) marks) ≡ Err f = rw two_limits at e in
      sym (rw (
        answer_is,
        one_fits_lem Err (verdict_found ask t g) (handed ask (t ∷ g ∷ []) marks) f e',
        early_keeps ask.index ask.query ask.mask (t ∷ g ∷ []) marks f e',
      ))

  pub verdict-whole : allowed (one_to_five ask.index ask.query ask.mask (max t g ∷ []) marks) ≡ Ok tt → (r : Result VerdictReport Refusal) (m : List ℕ) → r ≡ verdict_found ask t g
      → m ≡ padded (mark_words (n ask.index)) [] → judges r (m ++ drop (mark_words (n ask.index)) marks) ≡ verdict_end ask marks t g
  unfolding verdict_end verdict_found
  verdict-whole fine r m e z =
      let words = mark_words (n ask.index) in
      let past : verdict_answer ask marks t g ≡ verdict_found ask t g =
      answer_is ∙ unless-none (handed ask (t ∷ g ∷ []) marks) Err _ (none_fits (handed ask (t ∷ g ∷ []) marks) (rw two_limits at fine)) in
      let kept : lent (of_judged (verdict_found ask t g)).0 words [] marks ≡ padded words [] ++ drop words marks =
      zeros _ words marks (changing ask.index (opened ask (verdict_steps ask)) _) in
      rw past (λ i. judges (e i) ((ap (λ (l : List ℕ). l ++ drop words marks) z ∙ sym kept) i))
