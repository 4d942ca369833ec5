-- A single call's lists, in the longer ones that it was lent: what it leaves there, and the records made of it. Assumes nothing.
use mathlib.Core.Path.{◌≡◌, sym, ap, ◌∙◌}
use mathlib.Core.List.{List, []}
use Prim.Native.Nat.{ℕ, ◌+◌}
use native.Mathlib.Omega.{arith}
use lib.ListN.{length, get_or, drop, length-append}
use Rattle.theory.specs.Lists.{tab, over, padded}
use Rattle.theory.proofs.Lists.{tab_cong}
use Rattle.scope.specs.Refusals.{mark_words}
use Rattle.scope.specs.Tables.{Index, n}
use Rattle.scope.specs.Walk.{question}
use Rattle.scope.specs.Calls.{asked, leaves, SearchEnd, nearest_end}
use Rattle.scope.specs.Batch.{single, answers_of, record_from, record_of}
use Rattle.scope.proofs.Single.{call_is, single_few, single-near, single_far, single_known, entry-over, record-over}
use Rattle.batch.specs.Part.{Listed, Asks}
use Rattle.shapes.proofs.Accepting.{fits_lent}

module _ {x : Index} {query : List ℕ} {k : ℕ} {marks outcome entries distances : List ℕ} (a : Asks x query k marks outcome entries distances) where
  abbrev e : SearchEnd
  e = single x query k

  pub call_leaves : leaves e.answer (over (padded (mark_words (n x)) []) marks) (over e.entries entries) (over e.distances distances) ≡ nearest_end (asked (question x query) marks entries distances) k
  call_leaves = sym (call_is x query k (fits_lent a.lent) a.long marks entries distances a.marked a.near a.far)

  module _ (answers : ℕ) (es ds : List ℕ) (so_many : answers ≡ answers_of e.answer) (near : es ≡ over e.entries entries) (far : ds ≡ over e.distances distances) where
    pub listed : Listed x.stars answers es ds
    listed =
        let few = single_few x query k (fits_lent a.lent) a.long in
        let full = single-near x query k (fits_lent a.lent) a.long in
        let full_far = single_far x query k (fits_lent a.lent) a.long in
        let es_long : length es ≡ length e.entries + length (drop (length e.entries) entries) = ap length near ∙ length-append e.entries _ in
        let ds_long : length ds ≡ length e.distances + length (drop (length e.distances) distances) = ap length far ∙ length-append e.distances _ in
        record {
          near = omega arith;
          far = omega arith;
          known = λ p b.
              let entry : get_or es p 0 ≡ get_or e.entries p 0 = ap (λ (l : List ℕ). get_or l p 0) near ∙ entry-over x query k (fits_lent a.lent) a.long entries distances p (omega arith) in
              rw entry (single_known x query k (fits_lent a.lent) a.long p (omega arith));
        }

    pub records_are : (places : ℕ) → tab (record_from x.stars answers es ds) places ≡ tab (record_of x.stars e) places
    records_are places =
        tab_cong _ _ places (λ p _. (λ i. record_from x.stars (so_many i) (near i) (far i) p) ∙ record-over x query k (fits_lent a.lent) a.long entries distances p)
