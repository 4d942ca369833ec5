-- Each statement determines how a call ends: its result, and what stands behind each `&mut`. Assumes nothing.
use mathlib.Core.Path.{refl}
use mathlib.Core.List.{List, [], ◌∷◌}
use Prim.Native.Nat.{ℕ, zero, suc}
use Rattle.theory.specs.Statements.{Determined}
use Rattle.theory.specs.Statements.{DeterminedByHand}
use Rattle.theory.proofs.Statements.{whole, kept}
use Rattle.scope.specs.Batch.{BatchEnd}
use Rattle.tirnavoy.specs.contracts.tirnavoy_build as tirnavoy_build
use Rattle.tirnavoy.proofs.tirnavoy_build.Reads as tirnavoy_build_reads
use Rattle.tirnavoy.specs.contracts.tirnavoy_check as tirnavoy_check
use Rattle.tirnavoy.proofs.tirnavoy_check.Reads as tirnavoy_check_reads
use Rattle.tirnavoy.specs.contracts.tirnavoy_nearest as tirnavoy_nearest
use Rattle.tirnavoy.proofs.tirnavoy_nearest.Reads as tirnavoy_nearest_reads
use Rattle.tirnavoy.specs.contracts.tirnavoy_within as tirnavoy_within
use Rattle.tirnavoy.proofs.tirnavoy_within.Reads as tirnavoy_within_reads
use Rattle.tirnavoy.specs.contracts.tirnavoy_batch as tirnavoy_batch
use Rattle.tirnavoy.proofs.tirnavoy_batch.Reads as tirnavoy_batch_reads
use Rattle.tirnavoy.specs.contracts.tirnavoy_verdict as tirnavoy_verdict
use Rattle.tirnavoy.proofs.tirnavoy_verdict.Reads as tirnavoy_verdict_reads
use Rattle.tirnavoy.specs.contracts.tirnavoy_blackboard as tirnavoy_blackboard
use Rattle.tirnavoy.proofs.tirnavoy_blackboard.Reads as tirnavoy_blackboard_reads
use Rattle.tirnavoy.specs.contracts.tirnavoy_sky_degrees as tirnavoy_sky_degrees
use Rattle.tirnavoy.proofs.tirnavoy_sky_degrees.Reads as tirnavoy_sky_degrees_reads
use Rattle.tirnavoy.specs.contracts.tirnavoy_sky_radians as tirnavoy_sky_radians
use Rattle.tirnavoy.proofs.tirnavoy_sky_radians.Reads as tirnavoy_sky_radians_reads
use Rattle.tirnavoy.specs.contracts.tirnavoy_nearest_masked as tirnavoy_nearest_masked
use Rattle.tirnavoy.proofs.tirnavoy_nearest_masked.Reads as tirnavoy_nearest_masked_reads
use Rattle.tirnavoy.specs.contracts.tirnavoy_within_masked as tirnavoy_within_masked
use Rattle.tirnavoy.proofs.tirnavoy_within_masked.Reads as tirnavoy_within_masked_reads
use Rattle.tirnavoy.specs.contracts.tirnavoy_verdict_masked as tirnavoy_verdict_masked
use Rattle.tirnavoy.proofs.tirnavoy_verdict_masked.Reads as tirnavoy_verdict_masked_reads
use Rattle.tirnavoy.specs.contracts.tirnavoy_blackboard_masked as tirnavoy_blackboard_masked
use Rattle.tirnavoy.proofs.tirnavoy_blackboard_masked.Reads as tirnavoy_blackboard_masked_reads

-- k numbers of a list: what is returned and the outs
abbrev Numbers : ℕ → Type 0
Numbers zero = Unit {0}
Numbers (suc k) = ℕ × Numbers k

abbrev numbers : (k : ℕ) → List ℕ → Numbers k
numbers zero l = tt
numbers (suc k) [] = (0, numbers k [])
numbers (suc k) (x ∷ l) = (x, numbers k l)

abbrev Lists : Type 0
Lists = List ℕ × List ℕ × List ℕ × List ℕ

pub tirnavoy_build-Determined : Determined tirnavoy_build.ended tirnavoy_build_reads.Post
tirnavoy_build-Determined κs a x y = whole (λ (e : ℕ × List ℕ × List ℕ). (e.0, kept 4 (e.1, (e.2, tt))))

pub tirnavoy_check-Determined : Determined tirnavoy_check.ended tirnavoy_check_reads.Post
tirnavoy_check-Determined κs a x y = whole (λ (l : List ℕ). ((numbers 2 l).0, kept 6 (numbers 2 l).1))

pub tirnavoy_nearest-Determined : Determined tirnavoy_nearest.ended tirnavoy_nearest_reads.Post
tirnavoy_nearest-Determined κs a x y = whole (λ (e : Lists). ((numbers 6 e.0).0, kept 8 (e.1, (e.2, (e.3, (numbers 6 e.0).1)))))

pub tirnavoy_within-Determined : Determined tirnavoy_within.ended tirnavoy_within_reads.Post
tirnavoy_within-Determined κs a x y = whole (λ (e : Lists). ((numbers 6 e.0).0, kept 8 (e.1, (e.2, (e.3, (numbers 6 e.0).1)))))

pub tirnavoy_batch-Determined : DeterminedByHand tirnavoy_batch.ended (λ M 𝓤 𝓛. tirnavoy_batch.clauses 𝓛)
tirnavoy_batch-Determined = record {
  states = λ κs a r e. _;
  says = λ M 𝓤 𝓛 mem run κs a g r e. refl;
  determined = λ κs a x y. whole (λ (e : BatchEnd). (e.number, kept 8 (e.marks, (e.outcomes, (e.records, tt)))));
}

pub tirnavoy_batch_read-Determined : Determined tirnavoy_batch.ended tirnavoy_batch_reads.Post
unfolding tirnavoy_batch-Determined
tirnavoy_batch_read-Determined κs a x y = tirnavoy_batch-Determined.determined κs a x y

pub tirnavoy_verdict-Determined : Determined tirnavoy_verdict.ended tirnavoy_verdict_reads.Post
tirnavoy_verdict-Determined κs a x y = whole (λ (e : List ℕ × List ℕ). ((numbers 10 e.0).0, kept 9 (e.1, (numbers 10 e.0).1)))

pub tirnavoy_blackboard-Determined : Determined tirnavoy_blackboard.ended tirnavoy_blackboard_reads.Post
tirnavoy_blackboard-Determined κs a x y = whole (λ (l : List ℕ). ((numbers 2 l).0, kept 3 (numbers 2 l).1))

pub tirnavoy_sky_degrees-Determined : Determined tirnavoy_sky_degrees.ended tirnavoy_sky_degrees_reads.Post
tirnavoy_sky_degrees-Determined κs a x y = whole (λ (l : List ℕ). ((numbers 3 l).0, kept 2 (numbers 3 l).1))

pub tirnavoy_sky_radians-Determined : Determined tirnavoy_sky_radians.ended tirnavoy_sky_radians_reads.Post
tirnavoy_sky_radians-Determined κs a x y = whole (λ (l : List ℕ). ((numbers 3 l).0, kept 2 (numbers 3 l).1))

pub tirnavoy_nearest_masked-Determined : Determined tirnavoy_nearest_masked.ended tirnavoy_nearest_masked_reads.Post
tirnavoy_nearest_masked-Determined κs a x y = whole (λ (e : Lists). ((numbers 6 e.0).0, kept 9 (e.1, (e.2, (e.3, (numbers 6 e.0).1)))))

pub tirnavoy_within_masked-Determined : Determined tirnavoy_within_masked.ended tirnavoy_within_masked_reads.Post
tirnavoy_within_masked-Determined κs a x y = whole (λ (e : Lists). ((numbers 6 e.0).0, kept 9 (e.1, (e.2, (e.3, (numbers 6 e.0).1)))))

pub tirnavoy_verdict_masked-Determined : Determined tirnavoy_verdict_masked.ended tirnavoy_verdict_masked_reads.Post
tirnavoy_verdict_masked-Determined κs a x y = whole (λ (e : List ℕ × List ℕ). ((numbers 10 e.0).0, kept 10 (e.1, (numbers 10 e.0).1)))

pub tirnavoy_blackboard_masked-Determined : Determined tirnavoy_blackboard_masked.ended tirnavoy_blackboard_masked_reads.Post
tirnavoy_blackboard_masked-Determined κs a x y = whole (λ (l : List ℕ). ((numbers 2 l).0, kept 4 (numbers 2 l).1))
