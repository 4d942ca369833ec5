-- Steps, one after the other, and when they stop. Assumes nothing.
use mathlib.Core.Path.{◌≡◌, refl, sym, ap, subst, ◌∙◌}
use mathlib.Core.Logic.{inr, ⊎_elim}
use mathlib.Core.Bool.{Bool, true, false, ◌&&◌, and-false}
use mathlib.Core.List.{List, []}
use Prim.Native.Nat.{ℕ, suc, min, ◌+◌, ◌*◌, ◌≤◌, ◌<◌}
use native.Mathlib.Nat.{eq-or-lt_of_le, min-eq_left}
use native.Mathlib.Decide.{le_ind}
use native.Mathlib.Numerals.{add-one}
use native.Mathlib.Omega.{arith}
use lib.Dec.{eqb, ltb, leb}
use lib.ListN.{length, get_or, length-append}
use borrow.Author.Tests.{le-ltb, lt-ltb, ltb-true, lt-leb, le-leb, leb-true, ne_eqb}
use Rattle.std.proofs.Common.{Result, Ok, Err}
use Rattle.theory.specs.Lists.{first_from, count, any}
use Rattle.theory.proofs.Tests.{either, lt-or-le, same_test, both_ways}
use Rattle.theory.proofs.Lists.{get_d_tab, length-tab, first-none, first_is, first_past, first_shift}
use Rattle.theory.proofs.Counting.{upto_gap, upto_never, count_never, count-le, count_cong}
use Rattle.theory.proofs.Placing.{lower_mono}
use Rattle.scope.specs.declared.Refusal.{Refusal}
use Rattle.scope.specs.Shape.{q}
use Rattle.scope.specs.Tables.{n}
use Rattle.scope.specs.Walk.{Question, distance_of, star_of, opens, opened, tested}
use Rattle.scope.specs.Search.{steps_until, nearest_steps}
use Rattle.scope.specs.Verdict.{two_stars, verdict_steps}
use Rattle.scope.specs.Refusals.{mark_words}
use Rattle.scope.proofs.Walking as walking
use Rattle.scope.proofs.Walking.{opened-none, opened-suc, tested-none, tested-suc, lists-entry}
use Rattle.scope.proofs.Steps.{verdict_some}
use Rattle.codes.specs.Marks.{is_marked}
use Rattle.walk.specs.declared.Aim.{Aim}
use Rattle.walk.specs.declared.Aim.TheVariants as aim
use Rattle.walk.specs.declared.Walk.{Walk}
use Rattle.walk.specs.Rivals.{standing, Best}
use Rattle.walk.specs.Limits.{Listing, Known}
use Rattle.walk.specs.Steps.{Met, met_in, Opening, Start, Going, Stepped, Fresh, Sensible, nearer, enough_after, steps_to, Left, Ended, Walked}
use Rattle.walk.proofs.Joining.{best_none, best_cong, two_near}
use Rattle.walk.proofs.Opening.{Clear, Refused, met-none, met_past, met_stays, none-bad}

-- where nothing is marked, nothing is counted
count_none : (marks : List ℕ) → ((i : ℕ) → is_marked marks i ≡ false) → (m : ℕ) (t : ℕ → Bool) → count (λ i. t i && is_marked marks i) m ≡ 0
count_none marks none m t =
    count_never (λ i. t i && is_marked marks i) m (λ i _. rw (none i) (and-false (t i)))

-- ---- before any step

module _ (star distance : ℕ → ℕ) (m words : ℕ) (marks tally : List ℕ) (f : Fresh words marks tally) (w : Walk) where
  pub listing_none : (k r : ℕ) → r ≤ 256 → Start (aim.Nearest k r) w → Listing distance m (is_marked marks) tally k r w.seen.limit w.seen.near
  listing_none k r top s =
      let first = s.limit in
      record {
        inside = (omega arith, top);
        each = λ d l. ap (λ (t : List ℕ). get_or t d 0) f.zeros ∙ get_d_tab _ 0 257 d (omega arith) ∙ sym (count_none marks f.none m (λ i. eqb (distance i) d));
        all = s.near ∙ sym (count_none marks f.none m (λ i. ltb (distance i) (w.seen.limit + 1)));
        enough = inr first;
      }

  known_none : (goal : Aim) (top : ℕ) → Sensible goal top → Start goal w → Known goal star distance m (is_marked marks) tally w.seen.limit w.seen.near w.seen.rivals
  known_none (aim.Nearest k r) top (some, _, few) s = (listing_none k r few s, rw (count_none marks f.none m (λ i. ltb (distance i) w.seen.limit)) some)
  known_none aim.TwoStars top h s =
      (best_none star (standing distance) (is_marked marks) f.none w.seen.rivals s.rivals.0 s.rivals.1, (let l = s.limit in let o = s.rivals.1 in omega arith))

-- ---- one step

module _ (ask : Question) (goal : Aim) where
  pub stepped : (N : ℕ) (w r : Walk) (end : Met) (marks tally marks' tally' : List ℕ) → Going ask goal N w marks tally
      → Opening ask goal (opens ask N) w r end marks marks' tally' → Stepped ask goal N r end marks' tally'
  stepped N w r end marks tally marks' tally' h g =
      let met : end ≡ met_in ask.index (opened ask (suc N)) =
      g.met ∙ sym (ap (met_in ask.index) (opened-suc ask N) ∙ met_past ask.index (opened ask N) (opens ask N) h.clear) in
      record {
        met = rw (add-one N) met;
        going = λ c.
            let b = g.clear c in
            record {
              clear = rw (add-one N) (sym met ∙ c);
              opened = rw (add-one N, opened-suc, length-append) (let i = b.opened in let k = h.opened in omega arith);
              marked = λ i. b.marked i ∙ rw (h.marked i, add-one N) (sym (tested-suc ask N i));
              counted = b.counted;
            };
      }

  -- nothing opened yet
  pub going-none : (top : ℕ) (w : Walk) (marks tally : List ℕ) → Sensible goal top → Start goal w → Fresh (mark_words (n ask.index)) marks tally → Going ask goal 0 w marks tally
  going-none top w marks tally h s f =
      record {
        clear = rw opened-none (met-none ask.index);
        opened = rw opened-none s.opened;
        marked = λ i. f.none i ∙ sym (tested-none ask i);
        counted = record {
          long = f.long;
          whole = ap length f.zeros ∙ length-tab _ 257;
          tested_is = s.tested ∙ sym (count_none marks f.none (64 * mark_words (n ask.index)) (λ _. true));
          known = known_none (star_of ask) (distance_of ask) (64 * mark_words (n ask.index)) (mark_words (n ask.index)) marks tally f w goal top h s;
        };
      }

  -- ---- what the walk knows, of the entries and by the definitions

  module _ (N : ℕ) (w : Walk) (marks tally : List ℕ) (h : Going ask goal N w marks tally) where
    theirs : (i : ℕ) → is_marked marks i ≡ true → i < n ask.index
    unfolding tested
    theirs i e = lists-entry ask.index (opened ask N) i (none-bad ask.index (opened ask N) h.clear) (sym (h.marked i) ∙ e)

    unmarked : (i : ℕ) → n ask.index ≤ i → is_marked marks i ≡ false
    unmarked i l = ⊎_elim (λ e. absurd (omega (arith, theirs i e))) (λ e. e) (either (is_marked marks i))

    abbrev places : ℕ
    places = 64 * mark_words (n ask.index)

    -- no number from n on is marked, so that the entries are counted
    entries : (t : ℕ → Bool) → count (λ i. t i && is_marked marks i) places ≡ count (λ i. t i && is_marked marks i) (n ask.index)
    entries t = ap length (upto_gap (λ i. t i && is_marked marks i) (n ask.index) places (omega arith) (λ i l _. rw (unmarked i l) (and-false (t i))))

    tested_of : (t : ℕ → Bool) → count (λ i. t i && is_marked marks i) (n ask.index) ≡ count (λ i. t i && tested ask N i) (n ask.index)
    tested_of t = count_cong _ _ (n ask.index) (λ i _. ap (λ (b : Bool). t i && b) (h.marked i))

    best : Best (star_of ask) (standing (distance_of ask)) (is_marked marks) w.seen.rivals → Best (star_of ask) (standing (distance_of ask)) (tested ask N) w.seen.rivals
    best = best_cong _ _ (is_marked marks) (tested ask N) h.marked w.seen.rivals

    left : (x : Aim) → Known x (star_of ask) (distance_of ask) places (is_marked marks) tally w.seen.limit w.seen.near w.seen.rivals → Left x ask N w.seen marks tally
    left (aim.Nearest k r) (t, _) =
        record {
          inside = t.inside;
          each = λ d l. t.each d l ∙ entries (λ i. eqb (distance_of ask i) d);
          all = t.all ∙ entries (λ i. ltb (distance_of ask i) (w.seen.limit + 1));
          enough = t.enough;
        }
    left aim.TwoStars (b, _) = best b

    ended : Ended ask goal N w marks tally
    ended =
        record {
          long = h.counted.long;
          whole = h.counted.whole;
          marked = h.marked;
          theirs = theirs;
          left = left goal h.counted.known;
          opened = λ i. record { 0 = h.opened i };
          tested = λ i. record { 0 = (h.counted.tested_is ∙ entries (λ _. true) ∙ tested_of (λ _. true)) i };
        }

    -- THE LIMIT TELLS WHEN TO STOP: what is near is enough once the limit is below the number of steps
    enough_is : (x : Aim) (top : ℕ) → n ask.index ≤ 65536 → top ≤ 256 → Sensible x top → N ≤ top
        → Known x (star_of ask) (distance_of ask) places (is_marked marks) tally w.seen.limit w.seen.near w.seen.rivals
        → enough_after ask x N ≡ ltb w.seen.limit N
    enough_is (aim.Nearest k r) top few early sense l (t, tight) =
        let D = distance_of ask in
        let M = is_marked marks in
        let limit = w.seen.limit in
        let same : count (λ i. ltb (D i) N && M i) places ≡ length (nearer ask N) = entries (λ i. ltb (D i) N) ∙ tested_of (λ i. ltb (D i) N) in
        same_test _ _
        (λ e.
        ⊎_elim (λ (g : limit < N). lt-ltb limit N g)
        (λ (g : N ≤ limit). absurd (omega (arith, leb-true k (length (nearer ask N)) e, lower_mono places D M N limit g))) (lt-or-le limit N))
        (λ e.
        let g : limit < N = ltb-true limit N e in
        le-leb k (length (nearer ask N))
        (⊎_elim (λ (y : k ≤ w.seen.near). omega (arith, t.all, lower_mono places D M (limit + 1) N (omega arith)))
        (λ (y : limit ≡ r). absurd (let b = sense.1 in omega arith)) t.enough))
    enough_is aim.TwoStars top few early sense l (b, is) =
        let other = w.seen.rivals.other.0 in
        sym (two_near (star_of ask) (distance_of ask) (tested ask N) (n ask.index) N few (omega arith) (λ i e. theirs i (h.marked i ∙ e)) w.seen.rivals (best b))
        ∙ same_test _ _ (λ e. lt-ltb w.seen.limit N (omega (arith, is, ltb-true other (65536 * N) e))) (λ e. lt-ltb other (65536 * N) (omega (arith, is, ltb-true w.seen.limit N e)))

    pub reached_is : (top : ℕ) → n ask.index ≤ 65536 → top ≤ 256 → Sensible goal top → N ≤ top → enough_after ask goal N ≡ ltb w.seen.limit N
    reached_is top few early sense l = enough_is goal top few early sense l h.counted.known

    pub so_far : Walked ask goal N (Ok w) marks tally
    so_far = (h.clear, ended)

  -- so many steps, said in other words
  pub walked_as : (M N : ℕ) → M ≡ N → (r : Result Walk Refusal) (marks tally : List ℕ) → Walked ask goal M r marks tally → Walked ask goal N r marks tally
  walked_as M N e r marks tally h = subst (λ (N : ℕ). Walked ask goal N r marks tally) e h

  -- no step is taken
  pub walked_none : (w : Walk) (marks tally : List ℕ) → Start goal w → Fresh (mark_words (n ask.index)) marks tally → Left goal ask 0 w.seen marks tally
      → Walked ask goal 0 (Ok w) marks tally
  walked_none w marks tally s f left = (
    rw opened-none (met-none ask.index),
    record {
      long = f.long;
      whole = ap length f.zeros ∙ length-tab _ 257;
      marked = λ i. f.none i ∙ sym (tested-none ask i);
      theirs = λ i e. both_ways (sym e ∙ f.none i);
      left = left;
      opened = λ i. record { 0 = (s.opened ∙ sym (ap length (opened-none ask))) i };
      tested = λ i. record { 0 = (s.tested ∙ sym (count_never (tested ask 0) (n ask.index) (λ j _. tested-none ask j))) i };
    },
  )

-- ---- a loop of steps that stops by a test p of their number: the walk after N, and that no fewer steps passed

pub record Far (ask : Question) (goal : Aim) (p : ℕ → Bool) (top N : ℕ) (w : Walk) (marks tally : List ℕ) : Type 0 where
  pub upto : N ≤ top + 1
  pub going : Going ask goal N w marks tally
  pub before : (M : ℕ) → M < N → p M ≡ false

module _ (ask : Question) (goal : Aim) (p : ℕ → Bool) (top : ℕ) where
  pub far_none : (w : Walk) (marks tally : List ℕ) → Sensible goal top → Start goal w → Fresh (mark_words (n ask.index)) marks tally → Far ask goal p top 0 w marks tally
  far_none w marks tally h s f = record { upto = omega arith; going = going-none ask goal top w marks tally h s f; before = λ M l. absurd (omega arith) }

  module _ (N : ℕ) (w : Walk) (marks tally : List ℕ) (h : Far ask goal p top N w marks tally) where
    -- the walk so far is all of it
    all : N ≡ steps_to p top → Walked ask goal (steps_to p top) (Ok w) marks tally
    all e = walked_as ask goal N (steps_to p top) e (Ok w) marks tally (so_far ask goal N w marks tally h.going)

    pub walked_all : top < N → Walked ask goal (steps_to p top) (Ok w) marks tally
    walked_all l =
        let e : N ≡ 0 + (top + 1) = let u = h.upto in omega arith in
        all (e ∙ sym (first-none p (top + 1) 0 (λ M _ b. h.before M (omega arith))))

    pub walked-enough : N ≤ top → p N ≡ true → Walked ask goal (steps_to p top) (Ok w) marks tally
    walked-enough l e = all (sym (first_is p (top + 1) 0 N (omega arith) (omega arith) (λ M _ b. h.before M b) e))

    module _ (l : N ≤ top) (not_yet : p N ≡ false) (r : Walk) (marks' tally' : List ℕ) where
      before-suc : (M : ℕ) → M < N + 1 → p M ≡ false
      before-suc M b =
          ⊎_elim (λ (e : M ≡ N). rw e not_yet) (λ (e : M < N). h.before M e) (eq-or-lt_of_le (let g : M ≤ N = omega arith in g))

      pub far-more : Stepped ask goal N r Clear marks' tally' → Far ask goal p top (N + 1) r marks' tally'
      far-more s = record { upto = omega arith; going = s.going refl; before = before-suc }

      -- a bad bucket stops the walk before its time, and is the first bad of all its steps
      pub walked-bad : (f : Refusal) → Stepped ask goal N r (Refused f) marks' tally' → Walked ask goal (steps_to p top) (Err f) marks' tally'
      walked-bad f s = opened-bad (N + 1) _ (first_past p (top + 1) 0 (N + 1) (omega arith) (λ M _ b. before-suc M b)) (sym s.met)
        where
          opened-bad : (R M : ℕ) → R ≤ M → met_in ask.index (opened ask R) ≡ Refused f → met_in ask.index (opened ask M) ≡ Refused f
          opened-bad R M b m =
              le_ind (λ (j : ℕ). met_in ask.index (opened ask j) ≡ Refused f) m (λ j _ g. rw opened-suc (met_stays ask.index (opened ask j) (opens ask j) f g)) M b

-- ---- where the searches stop

module _ (ask : Question) where
  -- nothing is nearer than 0
  nearer-none : nearer ask 0 ≡ []
  nearer-none = upto_never (λ i. ltb (distance_of ask i) 0 && tested ask 0 i) (n ask.index) (λ i _. rw (le-ltb (distance_of ask i) 0 (omega arith)))

  -- what is enough after step R is enough after R + 1 steps, unless nothing is
  pub steps_until_lem : (enough : List ℕ → Bool) → enough [] ≡ false → steps_to (λ N. enough (nearer ask N)) (q ask.index.shape) ≡ steps_until ask enough
  unfolding first_from
  steps_until_lem enough none =
      rw (add-one (q ask.index.shape), nearer-none, none) (first_shift _ _ (λ R. ap enough (sym (walking.near_is ask R))) (q ask.index.shape) 0)

  -- K tested entries are near enough
  pub nearest_steps_lem : (k r : ℕ) → 0 < k → k ≤ n ask.index → steps_to (enough_after ask (aim.Nearest k r)) (q ask.index.shape) ≡ nearest_steps ask k
  unfolding nearest_steps
  nearest_steps_lem k r some h =
      let same : min k (n ask.index) ≡ k = min-eq_left h in
      rw (same, ne_eqb k 0 (λ e. omega arith)) (steps_until_lem (λ l. leb k (length l)) (lt-leb k 0 some))

  -- none is asked for: no step
  pub nearest-none : nearest_steps ask 0 ≡ 0
  unfolding nearest_steps
  nearest-none = let same : min 0 (n ask.index) ≡ 0 = min-eq_left (omega arith) in rw same

  -- two stars are
  pub verdict_steps_lem : 0 < n ask.index → steps_to (enough_after ask aim.TwoStars) (q ask.index.shape) ≡ verdict_steps ask
  unfolding two_stars any
  verdict_steps_lem h = steps_until_lem (two_stars (star_of ask)) refl ∙ sym (verdict_some ask h)

  -- there are not so many: all steps are taken
  pub all_steps : (k r top : ℕ) → n ask.index < k → steps_to (enough_after ask (aim.Nearest k r)) top ≡ top + 1
  all_steps k r top h =
      first-none (enough_after ask (aim.Nearest k r)) (top + 1) 0
      (λ N _ _. lt-leb k (length (nearer ask N)) (omega (arith, count-le (λ i. ltb (distance_of ask i) N && tested ask N i) (n ask.index)))) ∙ omega arith
