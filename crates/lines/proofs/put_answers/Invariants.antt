-- `lines::put_answers` meets its contract. The invariant: the lines of the answers passed are written. Assumes nothing.
use lib.ListN.{length}
use Rattle.lines.proofs.Writing.{Listing}
use Rattle.lines.proofs.put_answers.Given as goal

abbrev pub invariant-loop-entry : goal.invariant-loop-entry
invariant-loop-entry l = Listing l.initial.out l.at l.stars l.entries l.distances (length l.entries) l.out l.place (length l.yielded)
