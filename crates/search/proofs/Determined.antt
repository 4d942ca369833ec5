-- Each statement determines how a call ends: its result, and what stands behind each `&mut`. Assumes nothing.
use Rattle.theory.specs.Statements.{Determined}
use Rattle.theory.proofs.Statements.{whole, kept}
use Rattle.scope.specs.Calls.{SearchEnd, VerdictEnd}
use Rattle.search.specs.contracts.nearest as nearest
use Rattle.search.proofs.nearest.Reads as nearest_reads
use Rattle.search.specs.contracts.within as within
use Rattle.search.proofs.within.Reads as within_reads
use Rattle.search.specs.contracts.Sought.list as list
use Rattle.search.proofs.Sought.list.Reads as list_reads
use Rattle.search.specs.contracts.verdict as verdict
use Rattle.search.proofs.verdict.Reads as verdict_reads
use Rattle.search.specs.contracts.nearest_masked as nearest_masked
use Rattle.search.proofs.nearest_masked.Reads as nearest_masked_reads
use Rattle.search.specs.contracts.within_masked as within_masked
use Rattle.search.proofs.within_masked.Reads as within_masked_reads
use Rattle.search.specs.contracts.verdict_masked as verdict_masked
use Rattle.search.proofs.verdict_masked.Reads as verdict_masked_reads

pub nearest-Determined : Determined nearest.ended nearest_reads.Post
nearest-Determined κs a x y = whole (λ (e : SearchEnd). (e.answer, kept 3 (e.marks, (e.entries, (e.distances, tt)))))

pub within-Determined : Determined within.ended within_reads.Post
within-Determined κs a x y = whole (λ (e : SearchEnd). (e.answer, kept 3 (e.marks, (e.entries, (e.distances, tt)))))

pub list-Determined : Determined list.ended list_reads.Post
list-Determined κs a x y = whole (λ (e : SearchEnd). (e.answer, kept 3 (e.marks, (e.entries, (e.distances, tt)))))

pub verdict-Determined : Determined verdict.ended verdict_reads.Post
verdict-Determined κs a x y = whole (λ (e : VerdictEnd). (e.answer, kept 4 (e.marks, tt)))

pub nearest_masked-Determined : Determined nearest_masked.ended nearest_masked_reads.Post
nearest_masked-Determined κs a x y = whole (λ (e : SearchEnd). (e.answer, kept 4 (e.marks, (e.entries, (e.distances, tt)))))

pub within_masked-Determined : Determined within_masked.ended within_masked_reads.Post
within_masked-Determined κs a x y = whole (λ (e : SearchEnd). (e.answer, kept 4 (e.marks, (e.entries, (e.distances, tt)))))

pub verdict_masked-Determined : Determined verdict_masked.ended verdict_masked_reads.Post
verdict_masked-Determined κs a x y = whole (λ (e : VerdictEnd). (e.answer, kept 5 (e.marks, tt)))
