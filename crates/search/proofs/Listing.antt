-- What the searches list once the walk has ended. Assumes nothing.
use Rattle.std.specs.Prelude.{Result, Ok, Err}
use Rattle.scope.specs.declared.Report.{Report}
use mathlib.Core.Path.{◌≡◌, refl, sym, ap, ap₂, ◌∙◌}
use mathlib.Core.Logic.{⊎_elim}
use mathlib.Core.Bool.{Bool, true, false, ◌&&◌, cond}
use mathlib.Core.List.{List, [], ◌∷◌, map}
use Prim.Native.Nat.{ℕ, min, ◌+◌, ◌/◌, ◌≤◌, ◌<◌}
use native.Mathlib.Nat.{min-eq_left, min-eq_right}
use native.Mathlib.Omega.{arith}
use lib.Dec.{eqb, ltb}
use lib.ListN.{length, take, length-take, get_or-eq_default, replicate}
use lib.Seq.{get_or-take, length-take-le}
use Rattle.std.proofs.lemmas.List.{length-replicate, get_or-replicate}
use Rattle.theory.specs.Lists.{tab, padded}
use Rattle.theory.proofs.Tests.{lt-or-le}
use Rattle.theory.proofs.Lists.{is_tab, padded-take, over-padded, map-take}
use Rattle.theory.proofs.Counting.{count-le, count_cong}
use Rattle.theory.proofs.Order.{ranked_cong, first-near}
use Rattle.theory.proofs.Placing.{length-ranked}
use Rattle.scope.specs.declared.Refusal.{Refusal}
use Rattle.scope.specs.declared.Refusal.TheVariants.{TooMany, BadBucket}
use Rattle.scope.specs.declared.Tested.{Tested}
use Rattle.scope.specs.Shape.{q}
use Rattle.scope.specs.Tables.{Index, n, bad}
use Rattle.scope.specs.Walk.{Question, distance_of, opened, tested}
use Rattle.scope.specs.Search.{K, nearest_steps, answers, nearest, within_steps, within}
use Rattle.scope.specs.Refusals.{refusal, of_found, changes, met, too_many, unless, mark_words}
use Rattle.scope.specs.Calls.{asked, room, report, leaves, search_end}
use Rattle.scope.proofs.Rows.{unless-append, unless-none}
use Rattle.scope.proofs.Ends.{written, wiped, end_is}
use Rattle.codes.specs.Marks.{is_marked}
use Rattle.scope.proofs.Walking.{all-within}
use Rattle.codes.proofs.Marks.{is_marked-zero}
use Rattle.ranking.specs.Rank.{Rankable, Ranked}
use Rattle.walk.specs.declared.Aim.TheVariants as aim
use Rattle.walk.specs.declared.Walk.{Walk}
use Rattle.walk.specs.Asked.{Asked}
use Rattle.walk.specs.Steps.{met_in, Fresh, Ended, Walked}
use Rattle.walk.proofs.Opening.{not_both, walk_clear, walk_refused}
use Rattle.search.specs.Listed.{Listable, listed, Cut}
use Rattle.search.specs.Past.{nearest_found, nearest_past, within_found, within_past}

-- ---- before the walk: marks of no entry, a tally of zeros

pub fresh : {words : ℕ} {marks tally : List ℕ} → marks ≡ replicate words 0 → tally ≡ tab (λ _. 0) 257 → Fresh words marks tally
fresh {words} {marks} m t =
    let long = ap length m ∙ length-replicate words 0 in
    record {
      long = long;
      none = λ i.
          is_marked-zero marks i
          (⊎_elim (λ (l : i / 64 < words). rw m (get_or-replicate words (i / 64) 0 0 l))
          (λ (g : words ≤ i / 64). get_or-eq_default marks 0 (omega (arith, long))) (lt-or-le (i / 64) words));
      zeros = t;
    }

-- ---- after the walk: marks, and the tally up to the limit, are as ranking asks

module _ (ask : Question) (w : Walk) (marks tally : List ℕ) (e : Listable ask w marks tally) where
  in_tally : w.seen.limit + 1 ≤ length tally
  in_tally = let whole = e.whole in let inside = e.inside in omega arith

  pub rankable : Asked ask → (entries distances : List ℕ) → length distances ≡ length entries
      → Rankable ask.index.codes ask.index.shape.w (n ask.index) ask.query ask.mask w.seen.limit (length entries) marks (take (w.seen.limit + 1) tally) entries distances
  rankable a entries distances places =
      record {
        few = a.lent.few;
        coded = omega (arith, a.lent.codes);
        asked = (omega (arith, a.query), omega (arith, a.mask));
        marked = omega (arith, e.long);
        listed = omega arith;
        measured = omega (arith, places);
        theirs = λ i _ m. e.theirs i m;
        tallied =
            is_tab _ 0 (w.seen.limit + 1) _ (length-take-le (w.seen.limit + 1) tally in_tally)
            (λ d l. get_or-take (w.seen.limit + 1) tally d 0 l ∙ e.each d (omega arith));
      }

  -- the lists are just the places, and the marks just the words, that ranking fills and clears
  pub whole : {entries distances marks' tally' entries' distances' : List ℕ} → length distances ≡ length entries
      → Ranked ask.index.codes ask.index.shape.w (n ask.index) ask.query ask.mask w.seen.limit (length entries) marks entries distances marks' tally' entries' distances'
      → let l = answers ask (is_marked marks) w.seen.limit in
      (marks' ≡ padded (length marks) [])
      × (entries' ≡ padded (length entries) l)
      × (distances' ≡ padded (length entries) (map (distance_of ask) l))
  whole places r = (
    r.cleared ∙ over-padded _ [] marks e.long ∙ ap (λ (k : ℕ). padded k []) (sym e.long),
    r.listed ∙ over-padded _ _ _ refl,
    r.measured ∙ over-padded _ _ _ places,
  )

module _ (ask : Question) (k r N : ℕ) (marks tally : List ℕ) (w : Walk) (e : Ended ask (aim.Nearest k r) N w marks tally) where
  near_few : w.seen.near ≤ n ask.index
  near_few = omega (arith, e.left.all, count-le (λ i. ltb (distance_of ask i) (w.seen.limit + 1) && is_marked marks i) (n ask.index))

  -- with fewer than k entries in all, the limit stays
  limit_stays : n ask.index < k → w.seen.limit ≡ r
  limit_stays h = ⊎_elim (λ (g : k ≤ w.seen.near). absurd (omega (arith, near_few))) (λ g. g) e.left.enough

-- ---- lists of answers

-- a bad bucket is refusal 7
pub seven : (x : Index) (l : List (ℕ × ℕ)) (f : Refusal) → met_in x l ≡ Err f → (refusal f).0 ≡ 7
unfolding met_in unless
seven x [] f h = not_both (sym h)
seven x (b ∷ l) f h = go (seven x l f) (bad x b.0 b.1) h
  where
    go : (met_in x l ≡ Err f → (refusal f).0 ≡ 7) → (t : Bool)
        → cond t (Err (BadBucket b.0 b.1)) (met_in x l) ≡ Err f → (refusal f).0 ≡ 7
    go ih true e = let same : BadBucket b.0 b.1 ≡ f = cc in ap (λ (g : Refusal). (refusal g).0) (sym same)
    go ih false e = ih e

-- with lists of just the places
module _ (ask : Question) {P : ℕ} {marks entries distances : List ℕ} (cut : Cut ask.index P marks entries distances) (l : List ℕ) where
  -- after 7: zeros
  wiped_in : (f : Refusal) → (refusal f).0 ≡ 7
      → search_end (asked ask marks entries distances) (Err f) P l ≡ leaves (Err f) (padded (mark_words (n ask.index)) []) (padded P []) (padded P [])
  wiped_in f h =
      wiped (asked ask marks entries distances) P l f h
      ∙ end_is refl (over-padded _ [] marks cut.marked) (over-padded P [] entries cut.listed) (over-padded P [] distances cut.measured)

  -- after no refusal, or 6: the answers, which are k
  written_in : (r : Result Report Refusal) → changes (of_found r).0 ≡ true → eqb (of_found r).0 7 ≡ false → (k : List ℕ) → padded P l ≡ padded P k
      → padded P (map (distance_of ask) l) ≡ padded P (map (distance_of ask) k)
      → search_end (asked ask marks entries distances) r P l
      ≡ leaves r (padded (mark_words (n ask.index)) []) (padded P k) (padded P (map (distance_of ask) k))
  written_in r h h' k e d =
      written (asked ask marks entries distances) P l r h h'
      ∙ end_is refl (over-padded _ [] marks cut.marked) (over-padded P l entries cut.listed ∙ e) (over-padded P _ distances cut.measured ∙ d)

-- `list` leaves in them what a walk listed
pub list_leaves : (ask : Question) {P : ℕ} {old olds oldd : List ℕ} → Cut ask.index P old olds oldd
    → (walked : Result Walk Refusal) (now : List ℕ) {marks entries distances : List ℕ} → length now ≡ length old → marks ≡ padded (length now) []
    → entries ≡ padded (length olds) (listed ask walked now) → distances ≡ padded (length olds) (map (distance_of ask) (listed ask walked now))
    → {o o' : Result Report Refusal} → o ≡ o'
    → leaves o marks entries distances
    ≡ leaves o' (padded (mark_words (n ask.index)) []) (padded P (listed ask walked now)) (padded P (map (distance_of ask) (listed ask walked now)))
list_leaves ask cut walked now long m e d answer =
    end_is answer (rw (long, cut.marked) at m) (rw cut.listed at e) (rw cut.listed at d)

-- ---- nearest

places : (ask : Question) (k : ℕ) → k ≤ n ask.index → K ask.index k ≡ k
places ask k h = min-eq_left h

module _ (ask : Question) (k : ℕ) (h : k ≤ n ask.index) (w : Walk) (marks tally : List ℕ) where
  abbrev End : Type 0
  End = Ended ask (aim.Nearest k (q ask.index.shape)) (nearest_steps ask k) w marks tally

  first_k : End → nearest ask k ≡ take k (answers ask (is_marked marks) (q ask.index.shape))
  unfolding nearest
  first_k a =
      ap₂ (λ (j : ℕ) (l : List ℕ). take j l) (places ask k h)
      (ranked_cong (distance_of ask) (tested ask (nearest_steps ask k)) (is_marked marks) (n ask.index) (q ask.index.shape + 1) (λ i _ _. sym (a.marked i)))

  -- AN ENTRY OVER THE LIMIT IS NOT LISTED: the first k up to the limit are the first k of all
  up_to_limit : End → take k (answers ask (is_marked marks) (q ask.index.shape)) ≡ take k (answers ask (is_marked marks) w.seen.limit)
  up_to_limit a =
      let D = distance_of ask in
      let M = is_marked marks in
      let N = n ask.index in
      let limit = w.seen.limit in
      let inside = a.left.inside in
      ⊎_elim
      (λ (g : k ≤ w.seen.near).
      first-near D M N (limit + 1) (q ask.index.shape + 1) k (omega arith) (omega (arith, a.left.all, length-ranked N D M (limit + 1))))
      (λ (g : limit ≡ q ask.index.shape). ap (λ (d : ℕ). take k (answers ask M d)) (sym g)) a.left.enough

  report_is : End → report ask (nearest_steps ask k) (nearest ask k) ≡ record { answers = min k w.seen.tested.0; opened = w.opened; tested = w.seen.tested }
  unfolding report
  report_is a =
      let many : length (nearest ask k) ≡ min k w.seen.tested.0 =
      ap length (first_k a) ∙ length-take k (answers ask (is_marked marks) (q ask.index.shape))
      ∙ ap (min k) (all-within ask (is_marked marks) ∙ count_cong _ _ (n ask.index) (λ i _. a.marked i) ∙ sym (ap (λ (t : Tested). t.0) a.tested)) in
      λ i. record { answers = many i; opened = sym a.opened i; tested = sym a.tested i }

-- what is answered after the walk
abbrev pub found_near : ℕ → Result Walk Refusal → Result Report Refusal
found_near k (Ok w) = Ok (record { answers = min k w.seen.tested.0; opened = w.opened; tested = w.seen.tested })
found_near k (Err f) = Err f

module _ (ask : Question) {k : ℕ} (h : k ≤ n ask.index) {old entries distances : List ℕ} (cut : Cut ask.index k old entries distances) where
  pub nearest_after : (walked : Result Walk Refusal) (marks tally : List ℕ) → Walked ask (aim.Nearest k (q ask.index.shape)) (nearest_steps ask k) walked marks tally
      → nearest_past (asked ask old entries distances) k
      ≡ leaves (found_near k walked) (padded (mark_words (n ask.index)) []) (padded k (listed ask walked marks)) (padded k (map (distance_of ask) (listed ask walked marks)))
  unfolding nearest_past nearest_found met_in
  nearest_after (Err f) marks tally m =
      let l = opened ask (nearest_steps ask k) in
      rw (walk_refused Err (Ok (report ask (nearest_steps ask k) (nearest ask k))) (met ask.index l) f m, places ask k h)
      (wiped_in ask cut (nearest ask k) f (seven ask.index l f m))
  nearest_after (Ok w) marks tally (e, a) =
      let l = opened ask (nearest_steps ask k) in
      let D = distance_of ask in
      let same : nearest ask k ≡ take k (answers ask (is_marked marks) w.seen.limit) = first_k ask k h w marks tally a ∙ up_to_limit ask k h w marks tally a in
      rw (unless-none (met ask.index l) Err (Ok (report ask (nearest_steps ask k) (nearest ask k))) (walk_clear (met ask.index l) e), places ask k h)
      (written_in ask cut (nearest ask k) (Ok (report ask (nearest_steps ask k) (nearest ask k))) refl refl _
      (ap (padded k) same ∙ padded-take k _) (ap (λ (r : List ℕ). padded k (map D r)) same ∙ ap (padded k) (map-take D k _) ∙ padded-take k _)
      ∙ end_is (ap Ok (report_is ask k h w marks tally a)) refl refl refl)

-- ---- within

module _ (ask : Question) (r : ℕ) (few : n ask.index ≤ 65536) (w : Walk) (marks tally : List ℕ) where
  abbrev Whole : Type 0
  Whole = Ended ask (aim.Nearest 65537 r) (within_steps ask.index r) w marks tally

  -- the walk's limit is r
  limit_is : Whole → w.seen.limit ≡ r
  limit_is a = limit_stays ask 65537 r (within_steps ask.index r) marks tally w a (omega arith)

  all : Whole → within ask r ≡ answers ask (is_marked marks) w.seen.limit
  unfolding within
  all a =
      ranked_cong (distance_of ask) (tested ask (within_steps ask.index r)) (is_marked marks) (n ask.index) (r + 1) (λ i _ _. sym (a.marked i))
      ∙ ap (answers ask (is_marked marks)) (sym (limit_is a))

  -- T is what the walk counted as within the limit
  near_is : Whole → length (within ask r) ≡ w.seen.near
  near_is a = ap length (all a) ∙ length-ranked (n ask.index) (distance_of ask) (is_marked marks) (w.seen.limit + 1) ∙ sym a.left.all

  report-within : Whole → report ask (within_steps ask.index r) (within ask r) ≡ record { answers = w.seen.near; opened = w.opened; tested = w.seen.tested }
  unfolding report
  report-within a = λ i. record { answers = near_is a i; opened = sym a.opened i; tested = sym a.tested i }

-- what is answered after the walk, with P places
abbrev pub found_within : ℕ → Result Walk Refusal → Result Report Refusal
found_within P (Ok w) = cond (ltb P w.seen.near) (Err (TooMany w.seen.near)) (Ok (record { answers = w.seen.near; opened = w.opened; tested = w.seen.tested }))
found_within P (Err f) = Err f

-- written, whether the answers fit or not
not_seven : (P T : ℕ) (y : Report) → let o = cond (ltb P T) (Err (TooMany T)) (Ok y) in (changes (of_found o).0 ≡ true) × (eqb (of_found o).0 7 ≡ false)
not_seven P T y = go (ltb P T)
  where
    go : (b : Bool) → let o = cond b (Err (TooMany T)) (Ok y) in (changes (of_found o).0 ≡ true) × (eqb (of_found o).0 7 ≡ false)
    go true = (refl, refl)
    go false = (refl, refl)

module _ (ask : Question) (r : ℕ) (few : n ask.index ≤ 65536) {P : ℕ} (some : P ≤ n ask.index) {old entries distances : List ℕ}
    (cut : Cut ask.index P old entries distances) where
  room_is : room (asked ask old entries distances) ≡ P
  room_is = omega (arith, cut.listed, cut.measured)

  pub within_after : (walked : Result Walk Refusal) (marks tally : List ℕ) → Walked ask (aim.Nearest 65537 r) (within_steps ask.index r) walked marks tally
      → within_past (asked ask old entries distances) r
      ≡ leaves (found_within P walked) (padded (mark_words (n ask.index)) []) (padded P (listed ask walked marks)) (padded P (map (distance_of ask) (listed ask walked marks)))
  unfolding within_past within_found met_in unless
  within_after (Err f) marks tally m =
      let N = within_steps ask.index r in
      let l = opened ask N in
      rw (
        room_is,
        min-eq_right some,
        unless-append (met ask.index l) (too_many (length (within ask r)) P) Err (Ok (report ask N (within ask r))),
        walk_refused Err (unless (too_many (length (within ask r)) P) Err (Ok (report ask N (within ask r)))) (met ask.index l) f m,
      )
      (wiped_in ask cut (within ask r) f (seven ask.index l f m))
  within_after (Ok w) marks tally (e, a) =
      let N = within_steps ask.index r in
      let l = opened ask N in
      let same = all ask r few w marks tally a in
      let (changed, zeros) = not_seven P w.seen.near (record { answers = w.seen.near; opened = w.opened; tested = w.seen.tested }) in
      rw (
        room_is,
        min-eq_right some,
        unless-append (met ask.index l) (too_many (length (within ask r)) P) Err (Ok (report ask N (within ask r))),
        unless-none (met ask.index l) Err (unless (too_many (length (within ask r)) P) Err (Ok (report ask N (within ask r)))) (walk_clear (met ask.index l) e),
        report-within ask r few w marks tally a,
        near_is ask r few w marks tally a,
      )
      (written_in ask cut (within ask r) (found_within P (Ok w)) changed zeros _ (ap (padded P) same) (ap (λ (l : List ℕ). padded P (map (distance_of ask) l)) same))
