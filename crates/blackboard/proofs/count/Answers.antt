-- `blackboard::count` meets its contract. Assumes nothing.
use Rattle.std.specs.Prelude.{Ok}
use mathlib.Core.Path.{sym, ap, ◌∙◌}
use Prim.Native.Nat.{ℕ}
use Rattle.scope.proofs.Rows.{passed, passed_on}
use Rattle.blackboard.proofs.Answers.{early, taken, answered, refused}
use Rattle.blackboard.proofs.count.Goals as goal

pub returns-in_err-shape : goal.returns-in_err-shape
returns-in_err-shape c = passed_on c.from_residual.ensures.1 ∙ sym (refused _ _ c.in_err-shape.ensures)

pub open_after-requires : goal.open_after-requires
open_after-requires c = let (none, same) = passed (early _ _) _ c.in_ok-shape.ensures in rw same (taken _ _ none).1

pub returns : goal.returns
returns c =
    let (none, same) = passed (early _ _) _ c.in_ok-shape.ensures in
    ap (λ (k : ℕ). Ok (record { 0 = k })) c.open_after.ensures ∙ rw same (sym (answered _ _ none))
