-- The verdict over trusted tables, in words: what match, unsure and none say about the whole catalogue, and how far the walk goes. Assumes nothing.
use Rattle.std.specs.Prelude.{Ok, Err}
use mathlib.Core.Path.{◌≡◌, refl, sym, ap, ap₂, subst, ◌∙◌}
use mathlib.Core.Logic.{inl, inr, ⊎_elim}
use mathlib.Core.Bool.{Bool, true, false, ◌&&◌, and-true}
use mathlib.Core.List.{List, [], ◌∷◌}
use Prim.Native.Nat.{ℕ, zero, suc, ◌+◌, ◌-◌, ◌≤◌, ◌<◌, max}
use native.Mathlib.Omega.{arith}
use lib.Dec.{ltb, leb}
use lib.ListN.{length}
use borrow.Author.Tests.{ltb-true, ltb-false, lt-ltb, le-ltb, leb-true, le-leb}
use Rattle.theory.proofs.Tests.{either, lt-or-le, eq-or_ne, both_ways, and_left}
use Rattle.theory.proofs.Order.{Before, before_asym}
use Rattle.scope.specs.declared.Verdict.{Verdict}
use Rattle.scope.specs.declared.Verdict.TheVariants.{None, Unsure, Match}
use Rattle.scope.specs.declared.VerdictReport.{VerdictReport}
use Rattle.scope.specs.Codes.{code_of}
use Rattle.scope.specs.Shape.{q, listed}
use Rattle.scope.specs.Tables.{n, sound}
use Rattle.scope.specs.Walk.{Question, open_after, open_after_under, all_ones, distance_of, star_of, opened, tested, near}
use Rattle.scope.specs.Verdict.{two_stars, rivals, verdict_of, verdict_steps, nearest_rivals}
use Rattle.scope.specs.Calls.{handed, walked, verdict_report, verdict_answer, verdict_end}
use Rattle.scope.proofs.Rows.{unless-none, unless_past, met-any}
use Rattle.scope.proofs.Codes.{under-le}
use Rattle.scope.proofs.Opening.{open_after_lem}
use Rattle.scope.proofs.Steps.{until_at, until_end, verdict-none, verdict_some}
use Rattle.scope.proofs.Stars.{Foremost, Runner, Told, told, two_stars_yes, two_stars-other}
use Rattle.demands.specs.Neighbours.{neighbours, every_entry}
use Rattle.demands.specs.Trust.{VerdictCall}
use Rattle.demands.specs.Verdicts.{First, Next, Matched, Undecided, Says, Goes}
use Rattle.demands.proofs.Count.{plain_count}
use Rattle.demands.proofs.Sound.{none-bad, near-tested}
use Rattle.demands.proofs.Trusting.{verdict_ready}

pub no_nearer : (dist : ℕ → ℕ) (i j : ℕ) → Before dist i j → dist i ≤ dist j
no_nearer dist i j (inl l) = omega arith
no_nearer dist i j (inr e) = omega arith

-- ---- of n entries, where l holds the nearest and its runner-up

module _ (star dist : ℕ → ℕ) (n t g : ℕ) where
  abbrev all : ℕ → Bool
  all j = ltb j n

  first_entry : (a : ℕ) → Foremost star dist all a → First dist n a
  first_entry a f = record { entry = ltb-true a n f.passes; before = λ j h ne. f.before j (lt-ltb j n h) ne }

  next-entry : (a b : ℕ) → (star b ≡ star a → ⊥) → all b ≡ true
      → ((j : ℕ) → all j ≡ true → (star j ≡ star a → ⊥) → (j ≡ b → ⊥) → Before dist b j) → Next star dist n a b
  next-entry a b ne m before = record { entry = ltb-true b n m; other = ne; before = λ j h nj nb. before j (lt-ltb j n h) nj nb }

  all_far : (i : ℕ) → First dist n i → t < dist i → (j : ℕ) → j < n → t < dist j
  all_far i f h j l =
      ⊎_elim (λ (e : j ≡ i). rw e h) (λ (ne : j ≡ i → ⊥). let b = no_nearer dist i j (f.before j l ne) in omega arith) (eq-or_ne j i)

  -- a runner-up that is farther by g or more: so are all of another star
  all_others : (a b : ℕ) → Next star dist n a b → dist a + g ≤ dist b → (j : ℕ) → j < n → (star j ≡ star a → ⊥) → dist a + g ≤ dist j
  all_others a b f h j l na =
      ⊎_elim (λ (e : j ≡ b). rw e h) (λ (nb : j ≡ b → ⊥). let o = no_nearer dist b j (f.before j l na nb) in omega arith) (eq-or_ne j b)

  says : (l : List ℕ) → Told star dist all l → Says star dist n t g (verdict_of star dist t g l)
  unfolding verdict_of
  says l (Told.nobody e none) = rw e (λ j h. both_ways (sym (lt-ltb j n h) ∙ none j))
  says l (Told.someone a k e f (Runner.missing h same)) =
      rw (e, h)
      (⊎_elim (λ (far : ltb t (dist a) ≡ true). rw far (all_far a (first_entry a f) (ltb-true t (dist a) far)))
      (λ (near : ltb t (dist a) ≡ false).
      rw near (record {
        i = a;
        nearest = first_entry a f;
        its_star = refl;
        its_distance = refl;
        in_reach = ltb-false t (dist a) near;
        alone = λ j h ne. absurd (ne (same j (lt-ltb j n h)));
      })) (either (ltb t (dist a))))
  says l (Told.someone a k e f (Runner.there b h ne m before)) =
      let f' = first_entry a f in
      let g' = next-entry a b ne m before in
      let order = no_nearer dist a b (f.before b m (λ p. ne (ap star p))) in
      rw (e, h)
      (⊎_elim (λ (far : ltb t (dist a) ≡ true). rw far (all_far a f' (ltb-true t (dist a) far)))
      (λ (near : ltb t (dist a) ≡ false).
      ⊎_elim
      (λ (close : ltb (dist b - dist a) g ≡ true).
      rw (near, close) (record {
        i = a;
        j = b;
        nearest = f';
        next = g';
        stars = (refl, refl);
        distances = (refl, refl);
        in_reach = ltb-false t (dist a) near;
        close = let c = ltb-true (dist b - dist a) g close in omega arith;
      }))
      (λ (wide : ltb (dist b - dist a) g ≡ false).
      rw (near, wide) (record {
        i = a;
        nearest = f';
        its_star = refl;
        its_distance = refl;
        in_reach = ltb-false t (dist a) near;
        alone = all_others a b g' (let c = ltb-false (dist b - dist a) g wide in omega arith);
      })) (either (ltb (dist b - dist a) g))) (either (ltb t (dist a))))

  -- ---- and one verdict says it

  first_one : (i j : ℕ) → First dist n i → First dist n j → i ≡ j
  first_one i j f g' =
      ⊎_elim (λ e. e) (λ (ne : i ≡ j → ⊥). absurd (before_asym dist i j (f.before j g'.entry (λ e. ne (sym e))) (g'.before i f.entry ne))) (eq-or_ne i j)

  next_one : (i j k : ℕ) → Next star dist n i j → Next star dist n i k → j ≡ k
  next_one i j k f g' =
      ⊎_elim (λ e. e)
      (λ (ne : j ≡ k → ⊥). absurd (before_asym dist j k (f.before k g'.entry g'.other (λ e. ne (sym e))) (g'.before j f.entry f.other ne))) (eq-or_ne j k)

  none-match : (s d : ℕ) → Says star dist n t g None → Matched star dist n t g s d → ⊥
  none-match s d a b = let far = a b.i b.nearest.entry in omega (arith, b.its_distance, b.in_reach)

  none-unsure : (s s' d d' : ℕ) → Says star dist n t g None → Undecided star dist n t g s s' d d' → ⊥
  none-unsure s s' d d' a b = let far = a b.i b.nearest.entry in omega (arith, b.distances.0, b.in_reach)

  match-unsure : (s d u u' e e' : ℕ) → Matched star dist n t g s d → Undecided star dist n t g u u' e e' → ⊥
  match-unsure s d u u' e e' a b =
      let same : a.i ≡ b.i = first_one a.i b.i a.nearest b.nearest in
      let wide : d + g ≤ dist b.j = a.alone b.j b.next.entry (λ p. b.next.other (p ∙ a.its_star ∙ ap star same)) in
      omega (arith, ap dist same, a.its_distance, b.distances.0, b.distances.1, b.close)

  pub says_one : (v v' : Verdict) → Says star dist n t g v → Says star dist n t g v' → v ≡ v'
  says_one None None a b = refl
  says_one None (Match s d) a b = absurd (none-match s d a b)
  says_one None (Unsure s s' d d') a b = absurd (none-unsure s s' d d' a b)
  says_one (Match s d) None a b = absurd (none-match s d b a)
  says_one (Unsure s s' d d') None a b = absurd (none-unsure s s' d d' b a)
  says_one (Match s d) (Unsure u u' e e') a b = absurd (match-unsure s d u u' e e' a b)
  says_one (Unsure u u' e e') (Match s d) a b = absurd (match-unsure s d u u' e e' b a)
  says_one (Match s d) (Match u e) a b =
      let same : a.i ≡ b.i = first_one a.i b.i a.nearest b.nearest in
      ap₂ Match (a.its_star ∙ ap star same ∙ sym b.its_star) (a.its_distance ∙ ap dist same ∙ sym b.its_distance)
  says_one (Unsure s s' d d') (Unsure u u' e e') a b =
      let same : a.i ≡ b.i = first_one a.i b.i a.nearest b.nearest in
      let next : a.j ≡ b.j = next_one a.i a.j b.j a.next (rw same b.next) in
      λ k. Unsure ((a.stars.0 ∙ ap star same ∙ sym b.stars.0) k) ((a.stars.1 ∙ ap star next ∙ sym b.stars.1) k)
      ((a.distances.0 ∙ ap dist same ∙ sym b.distances.0) k) ((a.distances.1 ∙ ap dist next ∙ sym b.distances.1) k)

-- ---- over sound tables

module _ (ask : Question) (ls : listed ask.index.shape ≡ true) (s : sound ask.index ≡ true) where
  abbrev star : ℕ → ℕ
  star i = star_of ask i

  abbrev dist : ℕ → ℕ
  dist i = distance_of ask i

  abbrev size : ℕ
  size = n ask.index

  abbrev N : ℕ
  N = verdict_steps ask

  abbrev every : ℕ → Bool
  every j = ltb j size

  abbrev seen : ℕ → Bool
  seen j = ltb j size && tested ask N j

  -- the entries that have distance R or less after step R
  abbrev in_step : ℕ → ℕ → Bool
  in_step R i = leb (dist i) R && tested ask (R + 1) i

  -- what is nearer than the number of steps is tested
  reach : (N i : ℕ) → i < size → dist i < N → tested ask N i ≡ true
  reach zero i h l = absurd (omega arith)
  reach (suc R) i h l = near-tested ask ls s R i h (omega arith)

  in_step_yes : (R i : ℕ) → i < size → dist i ≤ R → in_step R i ≡ true
  in_step_yes R i h l = rw (le-leb (dist i) R l, reach (R + 1) i h (omega arith))

  -- the scan
  everyone : Told star dist every (rivals star (every_entry ask))
  unfolding neighbours
  everyone = subst (λ (t : ℕ → Bool). Told star dist t (rivals star (every_entry ask))) (λ k j. and-true (ltb j size) k) (told ask (λ _. true))

  -- one star: never two
  never : (a : ℕ) → ((j : ℕ) → every j ≡ true → star j ≡ star a) → (R : ℕ) → two_stars star (near ask R) ≡ false
  unfolding near
  never a same R =
      ⊎_elim (λ h. let (i, l, _, ne) = two_stars-other star (in_step R) size h (star a) in absurd (ne (same i (lt-ltb i size l)))) (λ e. e)
      (either (two_stars star (near ask R)))

  -- a and its runner-up b: not before b's distance, and then
  early : (a b : ℕ) → Next star dist size a b → (R : ℕ) → R < dist b → two_stars star (near ask R) ≡ false
  unfolding near
  early a b x R l =
      ⊎_elim
      (λ h.
      let (i, li, p, ne) = two_stars-other star (in_step R) size h (star a) in
      let close : dist i ≤ R = leb-true (dist i) R (and_left (leb (dist i) R) _ p) in
      absurd (⊎_elim (λ (e : i ≡ b). let d = ap dist e in omega arith) (λ (nb : i ≡ b → ⊥). let d = no_nearer dist b i (x.before i li ne nb) in omega arith) (eq-or_ne i b)))
      (λ e. e) (either (two_stars star (near ask R)))

  then : (a b : ℕ) → First dist size a → Next star dist size a b → dist a ≤ dist b → two_stars star (near ask (dist b)) ≡ true
  unfolding near
  then a b f x l = two_stars_yes star (in_step (dist b)) size a b f.entry (in_step_yes (dist b) a f.entry l) x.entry (in_step_yes (dist b) b x.entry (omega arith)) x.other

  goes_by : (l : List ℕ) → Told star dist every l → Goes star dist size (q ask.index.shape) N
  goes_by l (Told.nobody e none) = let z : size ≡ 0 = omega (arith, ltb-false 0 size (none 0)) in Goes.nowhere z (verdict-none ask z)
  goes_by l (Told.someone a k e f (Runner.missing h same)) =
      let some : 0 < size = omega (arith, ltb-true a size f.passes) in
      Goes.to_the_end some (λ i j li lj. same i (lt-ltb i size li) ∙ sym (same j (lt-ltb j size lj)))
      (verdict_some ask some ∙ until_end ask (two_stars star) (λ R _. never a same R))
  goes_by l (Told.someone a k e f (Runner.there b h ne m before)) =
      let some : 0 < size = omega (arith, ltb-true a size f.passes) in
      let sh = ask.index.shape in
      let f' : First dist size a = first_entry star dist size 0 0 a f in
      let x : Next star dist size a b = next-entry star dist size 0 0 a b ne m before in
      let order : dist a ≤ dist b = no_nearer dist a b (f.before b m (λ p. ne (ap star p))) in
      let larger : max (dist a) (dist b) ≡ dist b = omega arith in
      Goes.to_the_runner_up a b f' x
      (verdict_some ask some
      ∙ until_at ask (two_stars star) (dist b) (under-le ask.mask (code_of sh.w ask.index.codes b) ask.query (q sh)) (early a b x) (then a b f' x order)
      ∙ ap (λ (d : ℕ). d + 1) (sym larger))

  pub verdict_goes : Goes star dist size (q ask.index.shape) N
  verdict_goes = goes_by (rivals star (every_entry ask)) everyone

  -- ---- the rivals of the tested entries are those of all

  all_seen : ((j : ℕ) → j < size → tested ask N j ≡ true) → (l : List ℕ) → Told star dist seen l → Told star dist every l
  all_seen h l t = subst (λ (u : ℕ → Bool). Told star dist u l) (λ k j. same j k) t
    where
      same : (j : ℕ) → (ltb j size && tested ask N j) ≡ ltb j size
      same j = ⊎_elim (λ (b : j < size). rw (lt-ltb j size b, h j b)) (λ (b : size ≤ j). rw (le-ltb j size b)) (lt-or-le j size)

  seen_yes : (j : ℕ) → j < size → dist j < N → seen j ≡ true
  seen_yes j h l = rw (lt-ltb j size h, reach N j h l)

  -- what is not tested is as far as N
  unseen : (j : ℕ) → j < size → tested ask N j ≡ false → N ≤ dist j
  unseen j h e = ⊎_elim (λ (l : dist j < N). both_ways (sym (reach N j h l) ∙ e)) (λ g. g) (lt-or-le (dist j) N)

  -- i and j are seen, and have two stars
  widen : (i j : ℕ) → i < size → j < size → (star j ≡ star i → ⊥) → dist i < N → dist j < N → (l : List ℕ) → Told star dist seen l → Told star dist every l
  widen i j hi hj other li lj l (Told.nobody e none) = both_ways (sym (seen_yes i hi li) ∙ none i)
  widen i j hi hj other li lj l (Told.someone a k e f (Runner.missing h same)) = absurd (other (same j (seen_yes j hj lj) ∙ sym (same i (seen_yes i hi li))))
  widen i j hi hj other li lj l (Told.someone a k e f (Runner.there b h ne m before)) =
      let as-near : (c : ℕ) → seen c ≡ true → (star c ≡ star a → ⊥) → dist b ≤ dist c = λ c p nc.
      ⊎_elim (λ (q : c ≡ b). let d = ap dist q in omega arith) (λ (nb : c ≡ b → ⊥). no_nearer dist b c (before c p nc nb)) (eq-or_ne c b) in
      let close : dist b < N =
      ⊎_elim (λ (q : star i ≡ star a). let d = as-near j (seen_yes j hj lj) (λ p. other (p ∙ sym q)) in omega arith)
      (λ (q : star i ≡ star a → ⊥). let d = as-near i (seen_yes i hi li) q in omega arith) (eq-or_ne (star i) (star a)) in
      let order : dist a ≤ dist b = no_nearer dist a b (f.before b m (λ p. ne (ap star p))) in
      Told.someone a k e
      (record {
        passes = and_left (ltb a size) _ f.passes;
        before = λ c p nc.
            ⊎_elim (λ (t : tested ask N c ≡ true). f.before c (rw (p, t)) nc) (λ (t : tested ask N c ≡ false). inl (omega (arith, unseen c (ltb-true c size p) t)))
            (either (tested ask N c));
      })
      (Runner.there b h ne (and_left (ltb b size) _ m)
      (λ c p nc nb.
      ⊎_elim (λ (t : tested ask N c ≡ true). before c (rw (p, t)) nc nb) (λ (t : tested ask N c ≡ false). inl (omega (arith, unseen c (ltb-true c size p) t)))
      (either (tested ask N c))))

  told_by : Goes star dist size (q ask.index.shape) N → (l : List ℕ) → Told star dist seen l → Told star dist every l
  told_by (Goes.nowhere z e) = all_seen (λ j h. absurd (omega arith))
  told_by (Goes.to_the_end some one e) =
      let sh = ask.index.shape in
      all_seen (λ j h. reach N j h (omega (arith, under-le ask.mask (code_of sh.w ask.index.codes j) ask.query (q sh))))
  told_by (Goes.to_the_runner_up i j f x e) = widen i j f.entry x.entry x.other (omega arith) (omega arith)

  pub verdict-told : Told star dist every (nearest_rivals ask)
  unfolding nearest_rivals
  verdict-told = told_by verdict_goes (nearest_rivals ask) (told ask (tested ask N))

-- ---- the call

module _ (ask : Question) (marks : List ℕ) (t g : ℕ) (such : VerdictCall ask marks t g) where
  pub verdict_answer_lem : (verdict_end ask marks t g).answer ≡ Ok (verdict_report ask t g (verdict_steps ask) (nearest_rivals ask))
  unfolding verdict_end verdict_answer
  verdict_answer_lem =
      let N = verdict_steps ask in
      let known = verdict_ready ask marks t g such in
      let given = Ok (verdict_report ask t g N (nearest_rivals ask)) in
      unless_past (handed ask (t ∷ g ∷ []) marks) (walked ask N) Err given such.taken
      ∙ unless-none (walked ask N) Err given (met-any ask.index (opened ask N) ∙ none-bad ask known.shape known.good N)

  -- the verdict is given, and says this about the whole catalogue
  pub verdict_says : (rep : VerdictReport) × ((verdict_end ask marks t g).answer ≡ Ok rep) × Says (star_of ask) (distance_of ask) (n ask.index) t g rep.verdict
  unfolding verdict_report
  verdict_says =
      let known = verdict_ready ask marks t g such in (
        verdict_report ask t g (verdict_steps ask) (nearest_rivals ask),
        verdict_answer_lem,
        says (star_of ask) (distance_of ask) (n ask.index) t g (nearest_rivals ask) (verdict-told ask known.shape known.good),
      )

  -- its walk goes so far
  pub verdict_walks : Goes (star_of ask) (distance_of ask) (n ask.index) (q ask.index.shape) (verdict_steps ask)
  verdict_walks = let known = verdict_ready ask marks t g such in verdict_goes ask known.shape known.good

  -- and reports the blackboard's count after its last step R
  pub verdict-count : (R : ℕ) → verdict_steps ask ≡ R + 1
      → (rep : VerdictReport) × ((verdict_end ask marks t g).answer ≡ Ok rep) × (rep.opened.0 ≡ open_after_under ask.index.shape ask.mask R)
  unfolding verdict_report
  verdict-count R e = (
    verdict_report ask t g (verdict_steps ask) (nearest_rivals ask),
    verdict_answer_lem,
    ap (λ (N : ℕ). length (opened ask N)) e ∙ open_after_lem ask R (verdict_ready ask marks t g such).shape,
  )

  -- 01's where every bit counts
  pub verdict-count_plain : (R : ℕ) → ask.mask ≡ all_ones ask.index.shape.w → verdict_steps ask ≡ R + 1
      → (rep : VerdictReport) × ((verdict_end ask marks t g).answer ≡ Ok rep) × (rep.opened.0 ≡ open_after ask.index.shape R)
  verdict-count_plain R every e =
      let (rep, given, opened) = verdict-count R e in (rep, given, opened ∙ plain_count ask every (verdict_ready ask marks t g such).shape R)
