-- A call for the k nearest gives the same answer and lists the same, whatever lists of enough places it is lent. Assumes nothing.
use Rattle.std.specs.Prelude.{Result, Ok, Err}
use Rattle.scope.specs.declared.Refusal.{Refusal}
use mathlib.Core.Path.{◌≡◌, refl, sym, ap, ◌∙◌}
use mathlib.Core.Bool.{Bool, true, false, cond}
use mathlib.Core.List.{List, [], ◌∷◌, ◌++◌, map}
use Prim.Native.Nat.{ℕ, min, ◌+◌, ◌≤◌, ◌<◌}
use native.Mathlib.Nat.{min-le_left}
use native.Mathlib.Omega.{arith}
use lib.Dec.{eqb, ltb}
use lib.ListN.{length, get_or, drop, length-take, get_or-append}
use lib.Seq.{get_or-take}
use borrow.Author.Tests.{eq-eqb, le-ltb, ltb-true}
use Rattle.theory.specs.Lists.{cat, any, over, padded}
use Rattle.theory.proofs.Lists.{length-padded, over-padded, get_d_tab, cat-none}
use Rattle.theory.proofs.Placing.{here, length-ranked}
use Rattle.theory.proofs.Tests.{same_arms}
use Rattle.scope.specs.declared.Refusal.TheVariants.{BadBucket}
use Rattle.scope.specs.declared.Report.{Report}
use Rattle.scope.specs.Shape.{q}
use Rattle.scope.specs.Tables.{Index, n, bad}
use Rattle.scope.specs.Walk.{Question, question, all_ones, distance_of, tested, opened}
use Rattle.scope.specs.Search.{K, nearest_steps, answers, nearest}
use Rattle.scope.specs.Refusals.{of_found, changes, unless, one_to_three, wrong_query, wrong_mask, above, few_marks, few_places, met, mark_words, lent}
use Rattle.scope.specs.Calls.{asked, handed, walked, report, SearchEnd, leaves, search_end, nearest_answer, nearest_end}
use Rattle.scope.specs.Batch.{single, outcome_of, answers_of, zero_record, record_from, record_of}
use Rattle.scope.proofs.Masks.{all_ones-long}
use Rattle.scope.proofs.Rows.{Fits, unless-append, unless_holds, unrefused}

-- none of refusals 1 to 4 fits
module _ (x : Index) (query : List ℕ) (k : ℕ) (h : Fits x) (long : length query ≡ x.shape.w) where
  abbrev ask : Question
  ask = question x query

  abbrev l : List ℕ
  l = nearest ask k

  abbrev listing : Result Report Refusal
  listing = Ok (report ask (nearest_steps ask k) l)

  -- the answer
  it : Result Report Refusal
  it = unless (walked ask (nearest_steps ask k)) Err listing

  answer_is : (marks entries distances : List ℕ) → mark_words (n x) ≤ length marks → K x k ≤ length entries → K x k ≤ length distances
      → nearest_answer (asked ask marks entries distances) k ≡ it
  unfolding nearest_answer unless any it
  answer_is marks entries distances hm he hd =
      unless-append (handed ask [] marks) (few_places (K x k) (min (length entries) (length distances)) ++ walked ask (nearest_steps ask k)) Err listing
      ∙ unless-append (one_to_three x) (wrong_query x.shape query ++ wrong_mask x.shape (all_ones x.shape.w) ++ above x.shape [] ++ few_marks x marks) Err _
      ∙ unrefused x h Err _
      ∙ rw (eq-eqb (length query) x.shape.w long, eq-eqb (length (all_ones x.shape.w)) x.shape.w (all_ones-long x.shape.w), le-ltb (length marks) (mark_words (n x)) hm, le-ltb (min (length entries) (length distances)) (K x k) (omega arith))

  arm : (t : Bool) (b : ℕ × ℕ) (r : Result Report Refusal) → changes (of_found r).0 ≡ true → changes (of_found (cond t (Err (BadBucket b.0 b.1)) r)).0 ≡ true
  arm true b r h = refl
  arm false b r h = h

  go : (b : List (ℕ × ℕ)) (r : Report) → changes (of_found (unless (met x b) Err (Ok r))).0 ≡ true
  unfolding unless
  go [] r = refl
  go (b ∷ bs) r = arm (bad x b.0 b.1) b _ (go bs r)

  -- no refusal, or 7
  changing : changes (of_found it).0 ≡ true
  unfolding it
  changing = go (opened ask (nearest_steps ask k)) (report ask (nearest_steps ask k) l)

  -- what is listed: nothing after 7
  abbrev shown : List ℕ
  shown = cond (eqb (of_found it).0 7) [] l

  abbrev away : List ℕ
  away = cond (eqb (of_found it).0 7) [] (map (distance_of ask) l)

  end_is : (marks entries distances : List ℕ) → mark_words (n x) ≤ length marks → K x k ≤ length entries → K x k ≤ length distances
      → nearest_end (asked ask marks entries distances) k
      ≡ leaves it (over (padded (mark_words (n x)) []) marks) (over (padded (K x k) shown) entries) (over (padded (K x k) away) distances)
  unfolding nearest_end search_end lent
  end_is marks entries distances hm he hd =
      rw (answer_is marks entries distances hm he hd, changing)
      (λ i. leaves it (over (padded (mark_words (n x)) (same_arms {A = List ℕ} (eqb (of_found it).0 7) [] i)) marks) (over (padded (K x k) shown) entries) (over (padded (K x k) away) distances))

  single_is : single x query k ≡ leaves it (padded (mark_words (n x)) []) (padded (K x k) shown) (padded (K x k) away)
  unfolding single
  single_is =
      let m = length-padded (mark_words (n x)) [] in
      let e = length-padded (K x k) [] in
      end_is (padded (mark_words (n x)) []) (padded (K x k) []) (padded (K x k) []) (omega arith) (omega arith) (omega arith)
      ∙ (λ i. leaves it (over-padded (mark_words (n x)) [] (padded (mark_words (n x)) []) m i) (over-padded (K x k) shown (padded (K x k) []) e i) (over-padded (K x k) away (padded (K x k) []) e i))

  -- any such call, by the single call with lists of its own
  pub call_is : (marks entries distances : List ℕ) → mark_words (n x) ≤ length marks → K x k ≤ length entries → K x k ≤ length distances
      → nearest_end (asked ask marks entries distances) k
      ≡ leaves (single x query k).answer (over (padded (mark_words (n x)) []) marks) (over (single x query k).entries entries) (over (single x query k).distances distances)
  call_is marks entries distances hm he hd =
      end_is marks entries distances hm he hd
      ∙ (λ i. let s : SearchEnd = sym single_is i in leaves s.answer (over (padded (mark_words (n x)) []) marks) (over s.entries entries) (over s.distances distances))

  -- its two lists have K places
  pub single-near : length (single x query k).entries ≡ K x k
  single-near = ap (λ (s : SearchEnd). length s.entries) single_is ∙ length-padded (K x k) shown

  pub single_far : length (single x query k).distances ≡ K x k
  single_far = ap (λ (s : SearchEnd). length s.distances) single_is ∙ length-padded (K x k) away

  l_few : length l ≤ K x k
  unfolding nearest
  l_few = rw length-take (min-le_left (K x k) _)

  l_at : (p : ℕ) → p < length l → get_or l p 0 < n x
  unfolding nearest
  l_at p b =
      let all = answers ask (tested ask (nearest_steps ask k)) (q x.shape) in
      let m = length-take (K x k) all in
      let long = length-ranked (n x) (distance_of ask) (tested ask (nearest_steps ask k)) (q x.shape + 1) in
      rw (get_or-take (K x k) all p 0 (omega arith)) (here (n x) (distance_of ask) (tested ask (nearest_steps ask k)) (q x.shape + 1) p (omega arith)).entry

  few : answers_of it ≤ K x k
  unfolding it report
  few = unless_holds (λ r. answers_of r ≤ K x k) (walked ask (nearest_steps ask k)) Err listing (λ f. omega arith) l_few

  known : (p : ℕ) → p < answers_of it → get_or shown p 0 < n x
  unfolding it report
  known p = unless_holds (λ r. p < answers_of r → get_or (cond (eqb (of_found r).0 7) [] l) p 0 < n x) (walked ask (nearest_steps ask k)) Err listing (λ f b. absurd (omega arith)) (λ b. l_at p b)

  -- as many answers, or fewer, and each is an entry
  pub single_few : answers_of (single x query k).answer ≤ K x k
  single_few = let f = few in let s = ap (λ (s : SearchEnd). answers_of s.answer) single_is in omega arith

  pub single_known : (p : ℕ) → p < answers_of (single x query k).answer → get_or (single x query k).entries p 0 < n x
  single_known p b =
      let f = few in
      let s = ap (λ (s : SearchEnd). answers_of s.answer) single_is in
      let e : get_or (single x query k).entries p 0 ≡ get_or shown p 0 = ap (λ (s : SearchEnd). get_or s.entries p 0) single_is ∙ get_d_tab (λ (j : ℕ). get_or shown j 0) 0 (K x k) p (omega arith) in
      rw e (known p (omega arith))

  -- read from lists that begin with the single call's: an entry, a distance, a record
  module _ (es ds : List ℕ) (p : ℕ) where
    pub entry-over : p < answers_of (single x query k).answer → get_or (over (single x query k).entries es) p 0 ≡ get_or (single x query k).entries p 0
    entry-over b =
        let few = single_few in
        let full = single-near in
        let l = (single x query k).entries in
        get_or-append l (drop (length l) es) 0 p (omega arith)

    distance-over : p < answers_of (single x query k).answer → get_or (over (single x query k).distances ds) p 0 ≡ get_or (single x query k).distances p 0
    distance-over b =
        let few = single_few in
        let full = single_far in
        let l = (single x query k).distances in
        get_or-append l (drop (length l) ds) 0 p (omega arith)

    pub record-over :
        record_from x.stars (answers_of (single x query k).answer) (over (single x query k).entries es) (over (single x query k).distances ds) p
        ≡ record_of x.stars (single x query k) p
    record-over = same (ltb p (answers_of (single x query k).answer)) refl
      where
        s : SearchEnd
        s = single x query k

        same : (t : Bool) → ltb p (answers_of s.answer) ≡ t
            → cond t (record { entry = get_or (over s.entries es) p 0; star = get_or x.stars (get_or (over s.entries es) p 0) 0; distance = get_or (over s.distances ds) p 0 }) zero_record
            ≡ cond t (record { entry = get_or s.entries p 0; star = get_or x.stars (get_or s.entries p 0) 0; distance = get_or s.distances p 0 }) zero_record
        same true y =
            let b = ltb-true p (answers_of s.answer) y in
            λ i. record { entry = entry-over b i; star = get_or x.stars (entry-over b i) 0; distance = distance-over b i }
        same false y = refl

-- with k = 0 nothing is opened, tested or answered
pub none_asked_lem : (x : Index) (query : List ℕ) → Fits x → length query ≡ x.shape.w → outcome_of (single x query 0).answer ≡ 0 ∷ 0 ∷ 0 ∷ 0 ∷ []
unfolding it report nearest_steps nearest opened unless tested any cat
none_asked_lem x query h long =
    let few : min 0 (n x) ≡ 0 = omega arith in
    ap (λ (z : SearchEnd). outcome_of z.answer) (single_is x query 0 h long)
    ∙ rw few (ap (λ (j : ℕ). 0 ∷ 0 ∷ 0 ∷ j ∷ []) (ap length (cat-none (λ i. cond false (i ∷ []) []) (n x) (λ i b. refl))))
