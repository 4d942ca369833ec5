-- Each statement determines how a call ends: its result, and what stands behind each `&mut`. Assumes nothing.
use Rattle.theory.specs.Statements.{Determined}
use Rattle.theory.proofs.Statements.{result}
use Rattle.scope.specs.contracts.Refusal.number as number
use Rattle.scope.proofs.Refusal.number.Reads as number_reads
use Rattle.scope.specs.contracts.Refusal.first as first
use Rattle.scope.proofs.Refusal.first.Reads as first_reads
use Rattle.scope.specs.contracts.Refusal.second as second
use Rattle.scope.proofs.Refusal.second.Reads as second_reads

pub number-Determined : Determined number.ended number_reads.Post
number-Determined κs a x y = result

pub first-Determined : Determined first.ended first_reads.Post
first-Determined κs a x y = result

pub second-Determined : Determined second.ended second_reads.Post
second-Determined κs a x y = result
