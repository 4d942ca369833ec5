-- Each statement determines how a call ends: its result, and what stands behind each `&mut`. Assumes nothing.
use Rattle.theory.specs.Statements.{Determined}
use Rattle.theory.proofs.Statements.{result}
use Rattle.blackboard.specs.contracts.count as count
use Rattle.blackboard.proofs.count.Reads as count_reads
use Rattle.blackboard.specs.contracts.count_masked as count_masked
use Rattle.blackboard.proofs.count_masked.Reads as count_masked_reads

pub count-Determined : Determined count.ended count_reads.Post
count-Determined κs a x y = result

pub count_masked-Determined : Determined count_masked.ended count_masked_reads.Post
count_masked-Determined κs a x y = result
