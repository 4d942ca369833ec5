-- Each statement determines how a call ends: its result, and what stands behind each `&mut`. Assumes nothing.
use Rattle.theory.specs.Statements.{Determined}
use Rattle.theory.proofs.Statements.{whole, kept}
use Rattle.transcript.specs.Turn.{TurnEnd}
use Rattle.records.specs.contracts.turn as turn
use Rattle.records.proofs.turn.Reads as turn_reads

pub turn-Determined : Determined turn.ended turn_reads.Post
turn-Determined κs a x y =
    whole (λ (e : TurnEnd). (e.answer, kept 2 (e.desk, (e.out, tt))))
