-- `lines::put_line` meets its contract. The invariant: the fields before this one are written, each with a space after it. Assumes nothing.
use Rattle.lines.proofs.Writing.{Begun}
use Rattle.lines.proofs.put_line.Given as goal

abbrev pub invariant-loop-field : goal.invariant-loop-field
invariant-loop-field l = Begun l.initial.out l.at l.front l.field-index l.out l.place
