-- An entry is tested: it is marked and counted the first time, and changes what is known only if it is within the limit. Assumes nothing.
use mathlib.Core.Path.{◌≡◌, refl, sym, ap, subst, ◌∙◌}
use mathlib.Core.Logic.{inl, inr, ⊎_elim}
use mathlib.Core.Bool.{Bool, true, false, ◌&&◌, ◌||◌, and-true, and-false, or-false, or-true, or_assoc}
use mathlib.Core.List.{List}
use Prim.Native.Nat.{ℕ, ◌+◌, ◌*◌, ◌/◌, ◌≤◌, ◌<◌}
use native.Mathlib.Nat.{add-zero}
use native.Mathlib.Omega.{arith}
use lib.Dec.{eqb, ltb}
use lib.ListN.{length, get_or, length-set}
use lib.Seq.{get_or-set_same, get_or-set_other}
use borrow.Author.Tests.{eq-eqb, ne_eqb, lt-ltb, le-ltb}
use Rattle.theory.specs.Lists.{count}
use Rattle.theory.proofs.Tests.{one_if, eq-or_ne}
use Rattle.theory.proofs.Sums.{sum_cong}
use Rattle.theory.proofs.Counting.{count_new, count-le}
use Rattle.theory.proofs.Placing.{sum-among}
use Rattle.scope.specs.declared.Tested.{Tested}
use Rattle.codes.specs.Marks.{is_marked, with_mark}
use Rattle.codes.proofs.Marks.{is_marked-same, is_marked-other, length-with_mark}
use Rattle.walk.specs.declared.Aim.{Aim}
use Rattle.walk.specs.declared.Aim.TheVariants as aim
use Rattle.walk.specs.declared.Rivals.{Rivals}
use Rattle.walk.specs.declared.Seen.{Seen}
use Rattle.walk.specs.Rivals.{standing, Joins}
use Rattle.walk.specs.Limits.{below, raised, Countable, Counts, Known}
use Rattle.walk.specs.Steps.{Counted, Tests}
use Rattle.walk.proofs.Joining.{stays_behind}

-- ---- marks

-- entry i is marked now
pub marked_now : (marks : List ℕ) (i : ℕ) → i < 64 * length marks → (j : ℕ) → is_marked (with_mark marks i) j ≡ (is_marked marks j || eqb j i)
marked_now marks i h j =
    ⊎_elim (λ (q : j ≡ i). rw (q, is_marked-same marks i h, eq-eqb i i refl) (sym (or-true (is_marked marks i))))
    (λ (q : j ≡ i → ⊥). rw (ne_eqb j i q) (is_marked-other marks i j h q ∙ sym (or-false (is_marked marks j)))) (eq-or_ne j i)

-- ---- one entry more passes the test: what is known, by the aim

module _ (star distance : ℕ → ℕ) (m i : ℕ) (inside : i < m) (test test' : ℕ → Bool) (new : test i ≡ false) (same : (j : ℕ) → test' j ≡ (test j || eqb j i)) where
  -- one more of those that pass u too, if it does
  pub more : (u : ℕ → Bool) → count (λ j. u j && test' j) m ≡ count (λ j. u j && test j) m + one_if (u i)
  more u =
      count_new (λ j. u j && test j) (λ j. u j && test' j) i m inside (rw new (and-false (u i)))
      (λ j ne. ap (λ (b : Bool). u j && b) (same j ∙ rw (ne_eqb j i ne) (or-false (test j))))
      ∙ rw (same i, eq-eqb i i refl, or-true, and-true)

  -- none more is nearer than a distance that i is not nearer than
  same-below : (d : ℕ) → d ≤ distance i → count (λ j. ltb (distance j) d && test' j) m ≡ count (λ j. ltb (distance j) d && test j) m
  same-below d g = more (λ j. ltb (distance j) d) ∙ rw (le-ltb (distance i) d g) (add-zero _)

  module _ (tally : List ℕ) (s : Seen) where
    -- AN ENTRY OVER THE LIMIT CHANGES NOTHING THAT IS KNOWN
    pub known_over : (goal : Aim) → s.limit < distance i → Known goal star distance m test tally s.limit s.near s.rivals
        → Known goal star distance m test' tally s.limit s.near s.rivals
    known_over (aim.Nearest k r) over (t, tight) = (
      record {
        inside = t.inside;
        each = λ d l. t.each d l ∙ sym (more (λ j. eqb (distance j) d) ∙ rw (ne_eqb (distance i) d (λ e. omega arith)) (add-zero _));
        all = t.all ∙ sym (same-below (s.limit + 1) (omega arith));
        enough = t.enough;
      },
      rw (same-below s.limit (omega arith)) tight,
    )
    known_over aim.TwoStars over (best, is) =
        (stays_behind star (standing distance) test test' i (standing distance i) refl same s.rivals best (omega (arith, is)), is)

    -- within the limit: it may be a rival
    pub known_stars : (d : ℕ) → d ≡ distance i → (b : Rivals) → Joins star i (65536 * d + i) s.rivals b
        → Known aim.TwoStars star distance m test tally s.limit s.near s.rivals → Known aim.TwoStars star distance m test' tally (b.other.0 / 65536) s.near b
    known_stars d e b joins known = (joins (standing distance) test test' (ap (λ (y : ℕ). 65536 * y + i) (sym e)) same known.0, refl)

    -- or one of the k nearest
    module _ (k r d : ℕ) (e : d ≡ distance i) (l : d ≤ s.limit) (long : length tally ≡ 257)
        (known : Known (aim.Nearest k r) star distance m test tally s.limit s.near s.rivals) where
      -- the tally has one more at its distance
      at : (x : ℕ) → x ≤ s.limit → get_or (raised tally d) x 0 ≡ count (λ j. eqb (distance j) x && test' j) m
      at x g =
          ⊎_elim
          (λ (q : x ≡ d).
          rw q
          (get_or-set_same tally d (get_or tally d 0 + 1) 0 (let k = known.0.inside in omega arith)
          ∙ rw (known.0.each d l) (sym (more (λ j. eqb (distance j) d) ∙ rw (eq-eqb (distance i) d (sym e))))))
          (λ (q : x ≡ d → ⊥).
          get_or-set_other tally d x (get_or tally d 0 + 1) 0 q ∙ known.0.each x g
          ∙ sym (more (λ j. eqb (distance j) x) ∙ rw (ne_eqb (distance i) x (λ p. q (sym (e ∙ p)))) (add-zero _)))
          (eq-or_ne x d)

      -- added up it tells how many are nearer than x
      sums : (x : ℕ) → x ≤ s.limit + 1 → below (raised tally d) x ≡ count (λ j. ltb (distance j) x && test' j) m
      sums x h = sum_cong _ _ x (λ y g. at y (omega arith)) ∙ sum-among m distance test' x

      within : s.near + 1 ≡ count (λ j. ltb (distance j) (s.limit + 1) && test' j) m
      within = rw known.0.all (sym (more (λ j. ltb (distance j) (s.limit + 1)) ∙ rw (lt-ltb (distance i) (s.limit + 1) (omega arith))))

      pub countable : m ≤ 65536 → Countable k d s tally
      countable few =
          record {
            some = let t = known.1 in omega arith;
            whole = long;
            inside = (l, (let k = known.0.inside in omega arith));
            near = within ∙ sym (sums (s.limit + 1) (omega arith));
            few = (
              omega (arith, known.0.all, count-le (λ j. ltb (distance j) (s.limit + 1) && test j) m),
              omega (arith, known.0.each d l, count-le (λ j. eqb (distance j) d && test j) m),
            );
          }

      -- the limit is again the lowest that has k within it
      pub known-counted : (tally' : List ℕ) (o : Seen) → Counts k d tally s tally' o → Known (aim.Nearest k r) star distance m test' tally' o.limit o.near o.rivals
      known-counted tally' o c =
          let down = c.down in
          let (low, top) = known.0.inside in
          let sum : (x : ℕ) → x ≤ s.limit + 1 → below tally' x ≡ count (λ j. ltb (distance j) x && test' j) m = rw c.tally_is sums in (
            record {
              inside = (omega arith, top);
              each = rw c.tally_is (λ x g. at x (omega arith));
              all = c.near ∙ sum (o.limit + 1) (omega arith);
              enough =
                  ⊎_elim inl
                  (λ (q : o.limit ≡ s.limit).
                  let all : o.near ≡ s.near + 1 = c.near ∙ sum (o.limit + 1) (omega arith) ∙ rw q (sym within) in
                  ⊎_elim (λ (g : k ≤ s.near). inl (omega arith)) (λ (g : s.limit ≡ r). inr (q ∙ g)) known.0.enough) c.enough;
            },
            (let t = c.tight in omega (arith, sum o.limit (omega arith))),
          )

-- ---- an entry is tested, the first time

-- one more is tested
abbrev pub with_one : Seen → Seen
with_one s = record { tested = record { 0 = s.tested.0 + 1 }; limit = s.limit; near = s.near; rivals = s.rivals }

module _ (goal : Aim) (star distance : ℕ → ℕ) (words : ℕ) (s : Seen) (marks tally : List ℕ) (c : Counted goal star distance words s marks tally) where
  pub few_tested : words ≤ 1024 → s.tested.0 ≤ 65536
  few_tested h = omega (arith, c.tested_is, count-le (is_marked marks) (64 * words))

  known_as : (other : Aim) → goal ≡ other → Known other star distance (64 * words) (is_marked marks) tally s.limit s.near s.rivals
  known_as other is = subst (λ (x : Aim). Known x star distance (64 * words) (is_marked marks) tally s.limit s.near s.rivals) is c.known

  module _ (i : ℕ) (h : i < 64 * words) (new : is_marked marks i ≡ false) where
    now : (j : ℕ) → is_marked (with_mark marks i) j ≡ (is_marked marks j || eqb j i)
    now = marked_now marks i (let long = c.long in omega arith)

    pub count-asks : words ≤ 1024 → (k r d : ℕ) → goal ≡ aim.Nearest k r → d ≡ distance i → d ≤ s.limit → Countable k d (with_one s) tally
    count-asks few k r d is e l =
        countable star distance (64 * words) i h (is_marked marks) (is_marked (with_mark marks i)) new now tally (with_one s) k r d e l c.whole (known_as (aim.Nearest k r) is) (omega arith)

    module _ (marks' : List ℕ) (q : marks' ≡ with_mark marks i) where
      -- it is marked and counted, and o has what is known then
      tests : (o : Seen) (tally' : List ℕ) → o.tested.0 ≡ s.tested.0 + 1 → length tally' ≡ 257 → (other : Aim) → goal ≡ other
          → Known other star distance (64 * words) (is_marked (with_mark marks i)) tally' o.limit o.near o.rivals
          → Tests goal star distance words (λ j. eqb j i) o marks marks' tally'
      tests o tally' tested whole other is known =
          rw (q, is)
          (record {
            marked = now;
            counted = record {
              long = length-with_mark marks i ∙ c.long;
              whole = whole;
              tested_is =
                  tested ∙ rw c.tested_is (sym (more star distance (64 * words) i h (is_marked marks) (is_marked (with_mark marks i)) new now (λ _. true)));
              known = known;
            };
          })

      pub tests-over : s.limit < distance i → Tests goal star distance words (λ j. eqb j i) (with_one s) marks marks' tally
      tests-over over =
          tests (with_one s) tally refl c.whole goal refl
          (known_over star distance (64 * words) i h (is_marked marks) (is_marked (with_mark marks i)) new now tally s goal over c.known)

      module _ (d : ℕ) (e : d ≡ distance i) where
        pub tests-stars : goal ≡ aim.TwoStars → (b : Rivals) → Joins star i (65536 * d + i) s.rivals b
            → Tests goal star distance words (λ j. eqb j i) (record { tested = record { 0 = s.tested.0 + 1 }; limit = b.other.0 / 65536; near = s.near; rivals = b }) marks marks' tally
        tests-stars is b joins =
            tests _ tally refl c.whole aim.TwoStars is
            (known_stars star distance (64 * words) i h (is_marked marks) (is_marked (with_mark marks i)) new now tally s d e b joins (known_as aim.TwoStars is))

        pub tests-counted : d ≤ s.limit → (k r : ℕ) → goal ≡ aim.Nearest k r → (tally' : List ℕ) (o : Seen) → Counts k d tally (with_one s) tally' o
            → Tests goal star distance words (λ j. eqb j i) o marks marks' tally'
        tests-counted l k r is tally' o counts =
            let long : length tally' ≡ 257 = ap length counts.tally_is ∙ length-set tally d (get_or tally d 0 + 1) ∙ c.whole in
            tests o tally' (ap (λ (t : Tested). t.0) counts.tested) long (aim.Nearest k r) is
            (known-counted star distance (64 * words) i h (is_marked marks) (is_marked (with_mark marks i)) new now tally (with_one s) k r d e l c.whole
            (known_as (aim.Nearest k r) is) tally' o counts)

-- ---- several entries, one after the other

module _ (goal : Aim) (star distance : ℕ → ℕ) (words : ℕ) (marks : List ℕ) where
  pub tests_none : (new : ℕ → Bool) (s : Seen) (tally : List ℕ) → ((i : ℕ) → new i ≡ false) → Counted goal star distance words s marks tally
      → Tests goal star distance words new s marks marks tally
  tests_none new s tally none c = record { marked = λ i. rw (none i) (sym (or-false (is_marked marks i))); counted = c }

  pub tests_more : (new also all : ℕ → Bool) (r o : Seen) (marks' tally' marks'' tally'' : List ℕ) → ((i : ℕ) → all i ≡ (new i || also i))
      → Tests goal star distance words new r marks marks' tally' → Tests goal star distance words also o marks' marks'' tally''
      → Tests goal star distance words all o marks marks'' tally''
  tests_more new also all r o marks' tally' marks'' tally'' both h g =
      record {
        marked = λ i. g.marked i ∙ rw (h.marked i, both i) (or_assoc (is_marked marks i) (new i) (also i));
        counted = g.counted;
      }
