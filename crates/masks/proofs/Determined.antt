-- Each statement determines how a call ends: its result, and what stands behind each `&mut`. Assumes nothing.
use Rattle.theory.specs.Statements.{Determined}
use Rattle.theory.proofs.Statements.{result}
use Rattle.masks.specs.contracts.first as first
use Rattle.masks.proofs.first.Reads as first_reads
use Rattle.masks.specs.contracts.next as next
use Rattle.masks.proofs.next.Reads as next_reads

pub first-Determined : Determined first.ended first_reads.Post
first-Determined κs a x y = result

pub next-Determined : Determined next.ended next_reads.Post
next-Determined κs a x y = result
