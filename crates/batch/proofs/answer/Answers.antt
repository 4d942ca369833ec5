-- `batch::answer` meets its contract. Assumes nothing.
use mathlib.Core.Path.{sym, ap, ◌∙◌}
use mathlib.Core.List.{List}
use Prim.Native.Nat.{ℕ}
use lib.ListN.{get_or}
use Rattle.scope.specs.Tables.{Index}
use Rattle.scope.specs.Calls.{SearchEnd}
use Rattle.scope.specs.Batch.{outcome_of}
use Rattle.batch.proofs.Single.{call_leaves, listed, records_are}
use Rattle.batch.proofs.answer.Goals as goal

pub write-requires : goal.write-requires
write-requires c =
    let end = c.nearest-found.ensures ∙ sym (call_leaves c.requires) in
    let told = c.outcome_of-numbers.ensures ∙ ap (λ (e : SearchEnd). outcome_of e.answer) end in
    rw (ap (λ (x : Index). x.stars) c.index.view_is)
    (listed c.requires _ _ _ (ap (λ (l : List ℕ). get_or l 1 0) told) (ap (λ (e : SearchEnd). e.entries) end) (ap (λ (e : SearchEnd). e.distances) end))

pub returns : goal.returns
returns c =
    let end = c.nearest-found.ensures ∙ sym (call_leaves c.requires) in
    let told = c.outcome_of-numbers.ensures ∙ ap (λ (e : SearchEnd). outcome_of e.answer) end in
    let near = ap (λ (e : SearchEnd). e.entries) end in
    let far = ap (λ (e : SearchEnd). e.distances) end in
    let written = rw (ap (λ (x : Index). x.stars) c.index.view_is) at c.write.ensures in
    record {
      marks_after = ap (λ (e : SearchEnd). e.marks) end;
      outcome_after = c.copy_from_slice.ensures.after ∙ told;
      entries_after = near;
      distances_after = far;
      records_after = written ∙ records_are c.requires _ _ _ (ap (λ (l : List ℕ). get_or l 1 0) told) near far _;
    }
