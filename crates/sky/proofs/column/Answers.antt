-- `sky::column` meets its contract: each comparison passes one column by, or finds the angle in it. Assumes nothing.
use lib.Ieee.{of_bits, neg, of_int}
use Rattle.scope.specs.Sky.{edge}
use Rattle.scope.proofs.Field.{start, pass, here, last}
use Rattle.sky.proofs.column.Goals as goal

pub returns-then-d : goal.returns-then-d
unfolding edge of_bits neg of_int
returns-then-d c = here (start c.requires) c.if-d.true

pub returns-then-d-2 : goal.returns-then-d-2
unfolding edge of_bits neg of_int
returns-then-d-2 c = here (pass (start c.requires) c.if-d.false) c.if-d-2.true

pub returns-then-d-3 : goal.returns-then-d-3
unfolding edge of_bits neg of_int
returns-then-d-3 c = here (pass (pass (start c.requires) c.if-d.false) c.if-d-2.false) c.if-d-3.true

pub returns-then-d-4 : goal.returns-then-d-4
unfolding edge of_bits neg of_int
returns-then-d-4 c = here (pass (pass (pass (start c.requires) c.if-d.false) c.if-d-2.false) c.if-d-3.false) c.if-d-4.true

pub returns-then-d-5 : goal.returns-then-d-5
unfolding edge of_bits neg of_int
returns-then-d-5 c = here (pass (pass (pass (pass (start c.requires) c.if-d.false) c.if-d-2.false) c.if-d-3.false) c.if-d-4.false) c.if-d-5.true

pub returns-then-d-6 : goal.returns-then-d-6
unfolding edge of_bits neg of_int
returns-then-d-6 c = here (pass (pass (pass (pass (pass (start c.requires) c.if-d.false) c.if-d-2.false) c.if-d-3.false) c.if-d-4.false) c.if-d-5.false) c.if-d-6.true

pub returns-then-d-7 : goal.returns-then-d-7
unfolding edge of_bits neg of_int
returns-then-d-7 c = here (pass (pass (pass (pass (pass (pass (start c.requires) c.if-d.false) c.if-d-2.false) c.if-d-3.false) c.if-d-4.false) c.if-d-5.false) c.if-d-6.false) c.if-d-7.true

pub returns-else-d-7 : goal.returns-else-d-7
unfolding edge of_bits neg of_int
returns-else-d-7 c = last (pass (pass (pass (pass (pass (pass (pass (start c.requires) c.if-d.false) c.if-d-2.false) c.if-d-3.false) c.if-d-4.false) c.if-d-5.false) c.if-d-6.false) c.if-d-7.false)
