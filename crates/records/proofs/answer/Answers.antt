-- `records::answer` meets its contract. Assumes nothing.
use native.Mathlib.Omega.{arith}
use Rattle.records.proofs.Arms.{answered, nearest_replied, sky_replied, verdict_replied, within_replied}
use Rattle.records.proofs.answer.Goals as goal

pub returns-in-Nearest : goal.returns-in-Nearest
returns-in-Nearest c =
    rw c.in-Nearest.is
    (answered c.args.session _ _ c.args.s.now c.build_tables.ensures c.put_opening-at.ensures
    (nearest_replied c.args.session _ c.args.s.now _ _ c.ask.ensures) (omega arith))

pub returns-in-Within : goal.returns-in-Within
returns-in-Within c =
    rw c.in-Within.is
    (answered c.args.session _ _ c.args.s.now c.build_tables.ensures c.put_opening-at.ensures
    (within_replied c.args.session _ c.args.s.now _ _ c.ask-in-Within.ensures) (omega arith))

pub returns-in-Verdict : goal.returns-in-Verdict
returns-in-Verdict c =
    rw c.in-Verdict.is
    (answered c.args.session _ _ c.args.s.now c.build_tables.ensures c.put_opening-at.ensures
    (verdict_replied c.args.session _ c.args.s.now _ _ _ c.ask_verdict.ensures c.put_opening-at.ensures.short) (omega arith))

pub returns-in-Sky : goal.returns-in-Sky
returns-in-Sky c =
    rw c.in-Sky.is
    (answered c.args.session _ _ c.args.s.now c.build_tables.ensures c.put_opening-at.ensures
    (sky_replied c.args.session _ c.args.s.now _ _ c.ask_sky.ensures c.put_opening-at.ensures.short) (omega arith))
