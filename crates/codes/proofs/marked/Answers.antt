-- `codes::marked` meets its contract. Assumes nothing.
use borrow.Author.Rules.{rules}
use Rattle.scope.specs.Codes.{bit}
use Rattle.codes.specs.Marks.{is_marked}
use Rattle.codes.proofs.marked.Goals as goal

pub returns : goal.returns
unfolding is_marked bit
returns c = search rules
