-- From refusals 1 to 5 to the whole of a search. Assumes nothing.
use Rattle.std.specs.Prelude.{Result, Ok, Err}
use Rattle.scope.specs.declared.Report.{Report}
use mathlib.Core.Path.{◌≡◌, refl, sym, ap, ◌∙◌}
use mathlib.Core.Logic.{⊎_elim}
use mathlib.Core.Bool.{false, ◌&&◌}
use mathlib.Core.List.{List, [], ◌∷◌, ◌++◌, map}
use Prim.Native.Nat.{ℕ, min, ◌+◌, ◌≤◌, ◌<◌}
use native.Mathlib.Nat.{min-eq_left, min-eq_right, min-le_left, min-le_right}
use native.Mathlib.Omega.{arith}
use lib.Dec.{ltb}
use lib.ListN.{length, take, drop}
use lib.Seq.{length-take-le}
use borrow.Author.Tests.{le-ltb, lt-ltb}
use Rattle.theory.specs.Lists.{any}
use Rattle.theory.proofs.Tests.{lt-or-le}
use Rattle.theory.proofs.Counting.{count-le}
use Rattle.theory.proofs.Placing.{length-ranked}
use Rattle.scope.specs.declared.Refusal.{Refusal}
use Rattle.scope.specs.declared.Refusal.TheVariants.{Room}
use Rattle.scope.specs.Tables.{Index, n}
use Rattle.scope.specs.Walk.{Question, distance_of, tested}
use Rattle.scope.specs.Search.{K, nearest_steps, nearest, within_steps, within}
use Rattle.scope.specs.Refusals.{Rows, refusal, of_found, unless, one_to_five, few_places, too_many, mark_words, changes, allowed}
use Rattle.scope.specs.Calls.{Asked, asked, room, handed, walked, report, SearchEnd, leaves, search_end, nearest_answer, nearest_end, within_answer, within_end}
use Rattle.scope.proofs.Rows.{unless-append, unless_past, no_limit, lent_front}
use Rattle.scope.proofs.Ends.{unchanged, end_is}
use Rattle.search.specs.Listed.{Cut}
use Rattle.search.specs.Past.{nearest_found, nearest_past, within_found, within_past}
use Rattle.search.proofs.Refusing.{none_fits, one_fits_lem, keeps}

-- ---- refusals 1 to 5 change no list

pub early_keeps : (x : Index) (query mask limits marks : List ℕ) (f : Refusal) → allowed (one_to_five x query mask limits marks) ≡ Err f → changes (refusal f).0 ≡ false
unfolding any
early_keeps x query mask limits marks f = keeps (one_to_five x query mask limits marks) f refl

-- ---- the places that are needed, and the rest, which stays

module _ (ask : Question) (marks entries distances : List ℕ) where
  abbrev pub words : ℕ
  words = mark_words (n ask.index)

  abbrev pub needed : ℕ → Asked
  needed P = asked ask (take words marks) (take P entries) (take P distances)

  abbrev whole : Asked
  whole = asked ask marks entries distances

  -- the lists are long enough for P places
  abbrev pub Enough : ℕ → Type 0
  Enough P = (words ≤ length marks) × (P ≤ room whole)

  pub needed-cut : (P : ℕ) → Enough P → Cut ask.index P (take words marks) (take P entries) (take P distances)
  needed-cut P h =
      record {
        marked = length-take-le words marks h.0;
        listed = length-take-le P entries (omega (arith, h.1));
        measured = length-take-le P distances (omega (arith, h.1));
      }

  widen : (r : Result Report Refusal) (P : ℕ) (l : List ℕ) {o : Result Report Refusal} {m e d : List ℕ} → Enough P → leaves o m e d ≡ search_end (needed P) r P l
      → leaves o (m ++ drop words marks) (e ++ drop P entries) (d ++ drop P distances) ≡ search_end whole r P l
  unfolding search_end
  widen r P l h s =
      let number = (of_found r).0 in
      end_is (ap (λ (x : SearchEnd). x.answer) s)
      (ap (λ (x : SearchEnd). x.marks ++ drop words marks) s ∙ lent_front number words [] marks h.0)
      (ap (λ (x : SearchEnd). x.entries ++ drop P entries) s ∙ lent_front number P l entries (omega (arith, h.1)))
      (ap (λ (x : SearchEnd). x.distances ++ drop P distances) s ∙ lent_front number P (map (distance_of ask) l) distances (omega (arith, h.1)))

  -- ---- nearest

  module _ (k : ℕ) where
    -- K serves as k
    pub same_k : (c : Asked) → nearest_past c (K c.question.index k) ≡ nearest_past c k
    unfolding nearest_past nearest_found nearest_steps nearest
    same_k c = rw (min-eq_left (min-le_right k (n c.question.index)))

    rest : Rows
    rest = few_places (K ask.index k) (room whole) ++ walked ask (nearest_steps ask k)

    pub nearest_early : (f : Refusal) → allowed (one_to_five ask.index ask.query ask.mask (0 ∷ []) marks) ≡ Err f
        → leaves (Err f) marks entries distances ≡ nearest_end whole k
    unfolding nearest_end nearest_answer rest
    nearest_early f e =
        let e' : allowed (one_to_five ask.index ask.query ask.mask [] marks) ≡ Err f = rw no_limit at e in
        sym (rw (
          unless-append (handed ask [] marks) rest Err (Ok (report ask (nearest_steps ask k) (nearest ask k))),
          one_fits_lem Err (unless rest Err (Ok (report ask (nearest_steps ask k) (nearest ask k)))) (handed ask [] marks) f e',
        )
        (unchanged whole (K ask.index k) (nearest ask k) f (early_keeps ask.index ask.query ask.mask [] marks f e')))

    module _ (fine : allowed (one_to_five ask.index ask.query ask.mask (0 ∷ []) marks) ≡ Ok tt) where
      past-five : nearest_answer whole k ≡ unless rest Err (Ok (report ask (nearest_steps ask k) (nearest ask k)))
      unfolding nearest_answer rest
      past-five =
          unless_past (handed ask [] marks) rest Err _ (none_fits (handed ask [] marks) (rw no_limit at fine))

      pub nearest_few : room whole < K ask.index k → leaves (Err Room) marks entries distances ≡ nearest_end whole k
      unfolding nearest_end rest unless
      nearest_few h = sym (rw (past-five, lt-ltb (room whole) (K ask.index k) h) (unchanged whole (K ask.index k) (nearest ask k) Room refl))

      pub nearest-whole : Enough (K ask.index k) → {o : Result Report Refusal} {m e d : List ℕ} → leaves o m e d ≡ nearest_past (needed (K ask.index k)) (K ask.index k)
          → leaves o (m ++ drop words marks) (e ++ drop (K ask.index k) entries) (d ++ drop (K ask.index k) distances) ≡ nearest_end whole k
      unfolding nearest_end nearest_past nearest_found rest unless
      nearest-whole h s =
          rw (past-five, le-ltb (room whole) (K ask.index k) h.1)
          (widen (nearest_found whole k) (K ask.index k) (nearest ask k) h (s ∙ same_k (needed (K ask.index k))))

  -- ---- within

  module _ (r : ℕ) where
    then : Rows
    then = walked ask (within_steps ask.index r) ++ too_many (length (within ask r)) (room whole)

    pub within_early : (f : Refusal) → allowed (one_to_five ask.index ask.query ask.mask (r ∷ []) marks) ≡ Err f
        → leaves (Err f) marks entries distances ≡ within_end whole r
    unfolding within_end within_answer then
    within_early f e =
        sym (rw (
          unless-append (handed ask (r ∷ []) marks) then Err (Ok (report ask (within_steps ask.index r) (within ask r))),
          one_fits_lem Err (unless then Err (Ok (report ask (within_steps ask.index r) (within ask r)))) (handed ask (r ∷ []) marks) f e,
        )
        (unchanged whole (min (n ask.index) (room whole)) (within ask r) f (early_keeps ask.index ask.query ask.mask (r ∷ []) marks f e)))

    -- no more are listed than there are entries: they are too many for the lists where they are for the places that are filled
    within_few : length (within ask r) ≤ n ask.index
    unfolding within
    within_few =
        let D = distance_of ask in
        let T = tested ask (within_steps ask.index r) in
        omega (arith, length-ranked (n ask.index) D T (r + 1), count-le (λ i. ltb (D i) (r + 1) && T i) (n ask.index))

    same_test : (T room : ℕ) → T ≤ n ask.index → ltb (min (n ask.index) room) T ≡ ltb room T
    same_test T room h =
        ⊎_elim (λ (l : room < T). rw (lt-ltb room T l) (lt-ltb _ _ (omega arith)))
        (λ (g : T ≤ room). rw (le-ltb room T g) (le-ltb _ _ (omega arith))) (lt-or-le room T)

    abbrev places : ℕ
    places = min (n ask.index) (room whole)

    same_past : Enough places → within_past (needed places) r ≡ search_end (needed places) (within_found whole r) places (within ask r)
    unfolding within_past within_found
    same_past h =
        let c = needed-cut places h in
        let e : room (needed places) ≡ places = omega (arith, c.listed, c.measured) in
        rw (e, min-eq_right (min-le_left (n ask.index) (room whole)), same_test (length (within ask r)) (room whole) within_few)

    pub within-whole : allowed (one_to_five ask.index ask.query ask.mask (r ∷ []) marks) ≡ Ok tt → Enough places
        → {o : Result Report Refusal} {m e d : List ℕ} → leaves o m e d ≡ within_past (needed places) r
        → leaves o (m ++ drop words marks) (e ++ drop places entries) (d ++ drop places distances) ≡ within_end whole r
    unfolding within_end within_answer within_found then
    within-whole fine h s =
        rw (unless_past (handed ask (r ∷ []) marks) then Err (Ok (report ask (within_steps ask.index r) (within ask r))) (none_fits (handed ask (r ∷ []) marks) fine))
        (widen (within_found whole r) places (within ask r) h (s ∙ same_past h))
