-- Each statement determines how a call ends: its result, and what stands behind each `&mut`. Assumes nothing.
use Rattle.theory.specs.Statements.{Determined}
use Rattle.theory.proofs.Statements.{result, same, kept}
use Rattle.reading.specs.contracts.Session.next_record as next_record
use Rattle.reading.proofs.Session.next_record.Reads as next_record_reads
use Rattle.reading.specs.contracts.Session.start as start
use Rattle.reading.proofs.Session.start.Reads as start_reads
use Rattle.reading.specs.contracts.Session.number as number
use Rattle.reading.proofs.Session.number.Reads as number_reads
use Rattle.reading.specs.contracts.Session.next as next
use Rattle.reading.proofs.Session.next.Reads as next_reads
use Rattle.reading.specs.contracts.body_length as body_length
use Rattle.reading.proofs.body_length.Reads as body_length_reads
use Rattle.reading.specs.contracts.read_offsets as read_offsets
use Rattle.reading.proofs.read_offsets.Reads as read_offsets_reads

pub next_record-Determined : Determined next_record.ended next_record_reads.Post
next_record-Determined κs a x y = result

pub start-Determined : Determined start.ended start_reads.Post
start-Determined κs a x y = result

pub number-Determined : Determined number.ended number_reads.Post
number-Determined κs a x y = result

pub next-Determined : Determined next.ended next_reads.Post
next-Determined κs a x y = result

pub body_length-Determined : Determined body_length.ended body_length_reads.Post
body_length-Determined κs a x y p q = result p.0 q.0

pub read_offsets-Determined : Determined read_offsets.ended read_offsets_reads.Post
read_offsets-Determined κs a x y p q = λ i. (tt, kept 2 (same p.0 q.0 i, (same p.1 q.1 i, tt)))
