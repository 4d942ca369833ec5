-- `lines::put_found` meets its contract. Assumes nothing.
use native.Mathlib.Omega.{arith}
use Rattle.std.proofs.lemmas.List.{length-take-le}
use Rattle.lines.proofs.Writing.{lines_cut, wrote_is, wrote_more}
use Rattle.lines.proofs.put_found.Goals as goal

pub returns-in-Ok : goal.returns-in-Ok
returns-in-Ok c =
    let enough = rw c.in-Ok.is at c.requires.lists_hold in
    let lines = rw (length-take-le c.in-Ok.report.answers c.args.entries.now enough.1) at c.put_answers.ensures in
    rw c.in-Ok.is
    (record {
      wrote = wrote_more c.put_counts-a.ensures.wrote (wrote_is (lines_cut _ _ _ _) lines.wrote);
      short = omega (arith, c.put_counts-a.ensures.short, lines.short);
    })
