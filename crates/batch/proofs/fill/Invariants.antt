-- `batch::fill` meets its contract: what stands in the lists before each query. Assumes nothing.
use lib.ListN.{length}
use Rattle.scope.specs.Batch.{batch}
use Rattle.batch.proofs.Going.{Inv}
use Rattle.batch.proofs.fill.Given as goal

abbrev pub invariant-loop-i : goal.invariant-loop-i
invariant-loop-i l =
    let f = l.fn in
    Inv (batch f.index l.queries l.k f.marks f.outcomes (length f.records)) f.entries f.distances f.records l.i l.marks l.outcomes l.entries l.distances l.records
