-- `records::turn` meets its contract. Assumes nothing.
use mathlib.Core.Path.{◌∙◌, ap, refl, sym}
use native.Mathlib.Omega.{arith}
use Rattle.std.specs.Prelude.{None, Some, Ok}
use Rattle.lines.proofs.Writing.{wrote_is}
use Rattle.lines.specs.Lines.{bad_line}
use Rattle.reading.specs.declared.Session.{Session}
use Rattle.records.proofs.Arms.{room, turn_is}
use Rattle.records.proofs.turn.Goals as goal

pub next-requires : goal.next-requires
next-requires c = room c.args.session c.args.s.now _ (cc)

pub returns-in-Err : goal.returns-in-Err
returns-in-Err c =
    turn_is c.args.session _ _ c.args.s.now _ (sym c.next_record.ensures ∙ c.in-Err.is) refl refl
    (wrote_is (ap bad_line c.number.ensures) c.put_bad-written.ensures.wrote) (omega (arith, c.put_bad-written.ensures.short))

pub returns-in-Ok-None : goal.returns-in-Ok-None
returns-in-Ok-None c =
    turn_is c.args.session _ _ c.args.s.now (Ok None) (cc) refl refl c.put_end-written.ensures.wrote (omega (arith, c.put_end-written.ensures.short))

pub returns-in-Ok-Some : goal.returns-in-Ok-Some
returns-in-Ok-Some c =
    let w = c.take-written.ensures in
    turn_is c.args.session _ _ c.args.s.now (Ok (Some c.in-Ok-Some.rec)) (cc) (ap (λ (x : Session). Some x) c.next.ensures) w.desk w.text w.room
