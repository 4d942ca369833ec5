-- Each statement determines how a call ends: its result, and what stands behind each `&mut`. Assumes nothing.
use mathlib.Core.Path.{refl}
use mathlib.Core.List.{List}
use Prim.Native.Nat.{ℕ}
use Rattle.theory.specs.Statements.{Determined, DeterminedByHand}
use Rattle.theory.proofs.Statements.{same, kept}
use Rattle.scope.specs.Batch.{BatchEnd}
use Rattle.batch.specs.contracts.fill as fill
use Rattle.batch.proofs.fill.Reads as fill_reads

pub fill-Determined : DeterminedByHand fill.ended (λ M 𝓤 𝓛. fill.clauses 𝓛)
fill-Determined = record {
  states = λ κs a r e. _;
  says = λ M 𝓤 𝓛 mem run κs a g r e. refl;
  determined = λ κs a x y p q.
      λ i. let e : BatchEnd × List ℕ × List ℕ = same p.1 q.1 i in (same p.0 q.0 i, kept 3 (e.0.marks, (e.0.outcomes, (e.1, (e.2, (e.0.records, tt))))));
}

pub fill_read-Determined : Determined fill.ended fill_reads.Post
fill_read-Determined κs a x y p q =
    λ i. let e : BatchEnd × List ℕ × List ℕ = same p.1 q.1 i in (same p.0 q.0 i, kept 3 (e.0.marks, (e.0.outcomes, (e.1, (e.2, (e.0.records, tt))))))
