-- A batch query by query: what stands in the lists before each, and after the last. Assumes nothing.
use Rattle.std.specs.Prelude.{Err}
use mathlib.Core.Path.{◌≡◌, refl, sym, ap, ◌∙◌}
use mathlib.Core.Logic.{⊎_elim}
use mathlib.Core.Bool.{true, false}
use mathlib.Core.List.{List, [], ◌∷◌, ◌++◌}
use Prim.Native.Nat.{ℕ, zero, suc, ◌+◌, ◌-◌, ◌*◌, ◌/◌, ◌≤◌, ◌<◌}
use native.Mathlib.Nat.{suc-mul}
use native.Mathlib.Numerals.{add-one}
use native.Mathlib.Omega.{arith}
use lib.Dec.{eqb}
use lib.ListN.{length, get_or, take, drop}
use borrow.Author.Tests.{eq-eqb, ne_eqb}
use borrow.Rule.Slice.PartMut.{put_mid}
use Rattle.theory.specs.Lists.{cat, tab, over, padded}
use Rattle.theory.proofs.Lists.{over_again, length-tab, cat_cong, cat_split, cat-none}
use Rattle.theory.proofs.Parts.{in_parts, over-next, length-parts, part_long}
use Rattle.theory.proofs.Tests.{either, both_ways, eq-or_ne}
use Rattle.scope.specs.declared.Refusal.{Refusal}
use Rattle.scope.specs.declared.Answer.{Answer}
use Rattle.scope.specs.Refusals.{refusal, mark_words, allowed}
use Rattle.scope.specs.Codes.{code_of}
use Rattle.scope.specs.Tables.{n}
use Rattle.scope.specs.Search.{K}
use Rattle.scope.specs.Calls.{SearchEnd}
use Rattle.scope.specs.Batch.{Handed, queries_in, batch_rows, batch_number, single, single_of, query_of, outcome_of, record_of, batch_outcomes, batch_records, BatchEnd, fills, batch_end}
use Rattle.scope.proofs.Rows.{one_fits, numbered}
use Rattle.scope.proofs.Single.{single-near, single_far, none_asked_lem}
use Rattle.scope.proofs.Batch.{Clear, clear, end_refused, end_clear, query_long, four_long}
use Rattle.batch.specs.Part.{Asks, Scratch, total, last_held, fill_end}
use Rattle.shapes.proofs.Accepting.{lent_fits}
use Rattle.batch.proofs.Refusing.{number_is, all-places}

-- query i's four numbers, and its records
abbrev outcome : Handed → ℕ → List ℕ
outcome c i = outcome_of (single_of c i).answer

abbrev records : Handed → ℕ → List Answer
records c i = tab (record_of c.index.stars (single_of c i)) c.k

-- a scratch list after i queries
unfoldable pub held : Handed → (SearchEnd → List ℕ) → ℕ → List ℕ → List ℕ
held c part zero old = old
held c part (suc i) old = over (part (single_of c i)) old

-- the lists before query i, by what they held before the first
pub record Inv (c : Handed) (entries distances : List ℕ) (answers : List Answer) (i : ℕ) (m o e d : List ℕ) (r : List Answer) : Type 0 where
  pub marks : m ≡ over (padded (mark_words (n c.index)) []) c.marks
  pub outcomes : o ≡ over (cat (outcome c) i) c.outcomes
  pub near : e ≡ held c (λ s. s.entries) i entries
  pub far : d ≡ held c (λ s. s.distances) i distances
  pub told : r ≡ over (cat (records c) i) answers

-- ---- refused

pub refused-end : (c : Handed) (f : Refusal) (e d : List ℕ) (r : List Answer) → Err f ≡ allowed (batch_rows c)
    → ◌≡◌ {A = BatchEnd × List ℕ × List ℕ} (fills (refusal f).0 c.marks c.outcomes r, e, d) (fill_end c e d r)
unfolding total last_held
refused-end c f e d r h =
    let number = number_is c f h in
    let some : eqb (batch_number c) 0 ≡ false = ap (λ (m : ℕ). eqb m 0) number ∙ numbered f in
    let one : one_fits (batch_rows c) ≡ true =
    ⊎_elim (λ t. t) (λ none. both_ways (ap (λ (m : ℕ). eqb m 0) (sym (clear c none).number) ∙ some)) (either (one_fits (batch_rows c))) in
    sym (rw (some, end_refused c one r, number))

-- ---- before the first query

pub start : (c : Handed) (e d m : List ℕ) (r : List Answer) (words : ℕ) → words ≡ mark_words (n c.index) → m ≡ over (padded words []) c.marks → Inv c e d r 0 m c.outcomes e d r
unfolding cat held
start c e d m r words is h = record { marks = h ∙ ap (λ (z : ℕ). over (padded z []) c.marks) is; outcomes = refl; near = refl; far = refl; told = refl }

-- ---- with k = 0 nothing is asked

zeros_are : (q : ℕ) → cat (λ _. 0 ∷ 0 ∷ 0 ∷ 0 ∷ []) q ≡ padded (4 * q) []
unfolding cat
zeros_are zero = refl
zeros_are (suc q) =
    let is : 4 * suc q ≡ 4 * q + 4 = omega arith in
    (λ i. zeros_are q i ++ 0 ∷ 0 ∷ 0 ∷ 0 ∷ []) ∙ sym (ap (λ (j : ℕ). padded j []) is ∙ cat_split (λ p. get_or [] p 0 ∷ []) (4 * q) 4)

module _ (c : Handed) (h : Clear c) (e : c.k ≡ 0) where
  nothing-asked : batch_outcomes c ≡ padded (4 * queries_in c) []
  unfolding batch_outcomes
  nothing-asked =
      cat_cong (outcome c) (λ _. 0 ∷ 0 ∷ 0 ∷ 0 ∷ []) (queries_in c)
      (λ i b. ap (λ (k : ℕ). outcome_of (single c.index (query_of c i) k).answer) e ∙ none_asked_lem c.index (query_of c i) h.fits (query_long c i b)) ∙ zeros_are (queries_in c)

  no_record : batch_records c ≡ []
  unfolding batch_records cat
  no_record = cat-none (records c) (queries_in c) (λ i _. ap (tab (record_of c.index.stars (single_of c i))) e)

  -- the marks and the outcomes are cleared, and the other lists stay
  pub none_asked-end : {m o : List ℕ} (near far : List ℕ) (r : List Answer) (words : ℕ) → words ≡ mark_words (n c.index) → m ≡ over (padded words []) c.marks → o ≡ over (padded (4 * queries_in c) []) c.outcomes
      → ◌≡◌ {A = BatchEnd × List ℕ × List ℕ} (fills 0 m o r, near, far) (fill_end c near far r)
  unfolding last_held
  none_asked-end near far r words is mm oo =
      let none : total c ≡ 0 = all-places c h ∙ ap (λ (k : ℕ). queries_in c * k) e ∙ omega arith in
      rw (eq-eqb (total c) 0 none, end_clear c h r, nothing-asked, no_record) (λ j. (fills 0 ((mm ∙ ap (λ (z : ℕ). over (padded z []) c.marks) is) j) (oo j) r, near, far))

-- ---- a query

-- query i is one of them; its words
pub query_in : (c : Handed) (w i : ℕ) → w ≡ c.index.shape.w → i < length c.queries / w → i < queries_in c
query_in c w i e h = rw e at h

pub query_is : (c : Handed) (w i : ℕ) → w ≡ c.index.shape.w → take (i * w + w - i * w) (drop (i * w) c.queries) ≡ query_of c i
unfolding code_of
query_is c w i e =
    let one : i * w + w - i * w ≡ w = omega arith in
    ap (λ (z : ℕ). take z (drop (i * w) c.queries)) one ∙ ap (λ (z : ℕ). take z (drop (i * z) c.queries)) e

none_over : {A : Type 0} (l old : List A) → length l ≡ 0 → over l old ≡ old
none_over [] old h = refl
none_over (x ∷ l) old h = absurd (omega arith)

module _ (c : Handed) (h : Clear c) where
  module _ (part : SearchEnd → List ℕ) (full : (i : ℕ) → i < queries_in c → length (part (single_of c i)) ≡ K c.index c.k) (old : List ℕ) where
    -- a scratch list is written over from the front, by each query as far
    held-next : (i : ℕ) (l : List ℕ) → i < queries_in c → l ≡ held c part i old → over (part (single_of c i)) l ≡ held c part (i + 1) old
    unfolding held
    held-next zero l b e = ap (over (part (single_of c 0))) e
    held-next (suc i) l b e =
        ap (over (part (single_of c (suc i)))) e
        ∙ over_again (part (single_of c (suc i))) (part (single_of c i)) old (full (suc i) b ∙ sym (full i (omega arith)))
        ∙ ap (λ (j : ℕ). held c part j old) (sym (add-one (suc i)))

    held-end : (q : ℕ) → queries_in c ≡ q → held c part q old ≡ last_held c part old
    unfolding held last_held
    held-end zero e =
        let none : total c ≡ 0 = all-places c h ∙ ap (λ (q : ℕ). q * c.k) e ∙ omega arith in
        sym (rw (eq-eqb (total c) 0 none))
    held-end (suc i) e =
        let places = all-places c h ∙ ap (λ (q : ℕ). q * c.k) e ∙ suc-mul i c.k in
        ⊎_elim
        (λ (z : total c ≡ 0).
        let none : c.k ≡ 0 = omega arith in
        let short = full i (omega arith) in
        none_over (part (single_of c i)) old (omega arith) ∙ sym (rw (eq-eqb (total c) 0 z)))
        (λ (z : total c ≡ 0 → ⊥).
        let last : i ≡ queries_in c - 1 = omega arith in
        ap (λ (j : ℕ). over (part (single_of c j)) old) last ∙ sym (rw (ne_eqb (total c) 0 z)))
        (eq-or_ne (total c) 0)

  near_full : (i : ℕ) → i < queries_in c → length (single_of c i).entries ≡ K c.index c.k
  near_full i b = single-near c.index _ c.k h.fits (query_long c i b)

  far_full : (i : ℕ) → i < queries_in c → length (single_of c i).distances ≡ K c.index c.k
  far_full i b = single_far c.index _ c.k h.fits (query_long c i b)

  -- query i's records are there
  pub places : (i : ℕ) → i < queries_in c → i * c.k + c.k ≤ c.places
  places i b = let room = h.room in let all = in_parts i (queries_in c) c.k b in omega arith

  -- and its four numbers
  pub four : (i : ℕ) → i < queries_in c → 4 * i + 4 ≤ length c.outcomes
  four i b = let told = h.told in omega arith

  module _ {i : ℕ} {m e d : List ℕ} (o : List ℕ) (b : i < queries_in c) (query : List ℕ) where
    pub asks : length query ≡ c.index.shape.w → length m ≡ length c.marks → length o ≡ length c.outcomes → Scratch c.k e d → Asks c.index query c.k m (take (4 * i + 4 - 4 * i) (drop (4 * i) o)) e d
    asks long lm lo s =
        let few = h.fits.few in
        let marked = h.marked in
        let told = h.told in
        let near = s.near in
        let far = s.far in
        record {
          lent = lent_fits h.fits;
          long = long;
          marked = omega arith;
          told = part_long (4 * i) (4 * i + 4 - 4 * i) o (omega arith) ∙ omega arith;
          near = omega arith;
          far = omega arith;
        }

    pub next : {e₀ d₀ : List ℕ} {r₀ r : List Answer} {m' o' e' d' : List ℕ} {r' : List Answer} → query ≡ query_of c i → Inv c e₀ d₀ r₀ i m o e d r → c.places ≡ length r
        → m' ≡ over (padded (mark_words (n c.index)) []) m → o' ≡ outcome_of (single c.index query c.k).answer
        → e' ≡ over (single c.index query c.k).entries e → d' ≡ over (single c.index query c.k).distances d
        → r' ≡ tab (record_of c.index.stars (single c.index query c.k)) (length (take (i * c.k + c.k - i * c.k) (drop (i * c.k) r)))
        → Inv c e₀ d₀ r₀ (i + 1) m' (put_mid (4 * i) (4 * i + 4 - 4 * i) o o') e' d' (put_mid (i * c.k) (i * c.k + c.k - i * c.k) r r')
    next {e₀ = e₀} {d₀ = d₀} {r₀ = r₀} {r = r} {o' = o'} {r' = r'} words v room mm oo ee dd rr =
        let same : single c.index query c.k ≡ single_of c i = ap (λ (l : List ℕ). single c.index l c.k) words in
        let one : i + 1 ≡ suc i = add-one i in
        let outcomes_long : length (cat (outcome c) i) ≡ i * 4 = length-parts (outcome c) 4 i (λ z _. four_long (single_of c z).answer) in
        let records_long : length (cat (records c) i) ≡ i * c.k = length-parts (records c) c.k i (λ z _. length-tab _ c.k) in
        let inside : i * c.k + c.k ≤ length r = let p = places i b in omega arith in
        let part : length (take (i * c.k + c.k - i * c.k) (drop (i * c.k) r)) ≡ c.k = part_long (i * c.k) (i * c.k + c.k - i * c.k) r (omega arith) ∙ omega arith in
        record {
          marks = mm ∙ ap (over (padded (mark_words (n c.index)) [])) v.marks ∙ over_again (padded (mark_words (n c.index)) []) (padded (mark_words (n c.index)) []) c.marks refl;
          outcomes = over-next (outcome c) c.outcomes o o' i (4 * i) (4 * i + 4 - 4 * i) v.outcomes (omega arith) (four_long (single_of c i).answer ∙ omega arith) (oo ∙ ap (λ (s : SearchEnd). outcome_of s.answer) same)
              ∙ ap (λ (j : ℕ). over (cat (outcome c) j) c.outcomes) (sym one);
          near = ee ∙ ap (λ (s : SearchEnd). over s.entries e) same ∙ held-next (λ s. s.entries) near_full e₀ i e b v.near;
          far = dd ∙ ap (λ (s : SearchEnd). over s.distances d) same ∙ held-next (λ s. s.distances) far_full d₀ i d b v.far;
          told = over-next (records c) r₀ r r' i (i * c.k) (i * c.k + c.k - i * c.k) v.told records_long (length-tab _ c.k ∙ omega arith)
              (rr ∙ (λ j. tab (record_of c.index.stars (same j)) (part j)))
              ∙ ap (λ (j : ℕ). over (cat (records c) j) r₀) (sym one);
        }

  -- ---- after the last

  pub finish : {e₀ d₀ : List ℕ} {r₀ : List Answer} {m o e d : List ℕ} {r : List Answer} → Inv c e₀ d₀ r₀ (queries_in c) m o e d r
      → ◌≡◌ {A = BatchEnd × List ℕ × List ℕ} (fills 0 m o r, e, d) (fill_end c e₀ d₀ r₀)
  unfolding batch_outcomes batch_records
  finish {e₀ = e₀} {d₀ = d₀} {r₀ = r₀} {m = m} {o = o} {r = r} v =
      let lists : fills 0 m o r ≡ batch_end c r₀ = (λ j. fills 0 (v.marks j) (v.outcomes j) (v.told j)) ∙ sym (end_clear c h r₀) in
      let near = v.near ∙ held-end (λ s. s.entries) near_full e₀ (queries_in c) refl in
      let far = v.far ∙ held-end (λ s. s.distances) far_full d₀ (queries_in c) refl in
      λ j. (lists j, near j, far j)
