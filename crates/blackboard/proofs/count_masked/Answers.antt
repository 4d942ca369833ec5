-- `blackboard::count_masked` meets its contract. Assumes nothing.
use Rattle.std.specs.Prelude.{Ok}
use mathlib.Core.Path.{sym, ap, ◌∙◌}
use Prim.Native.Nat.{ℕ}
use native.Mathlib.Omega.{arith}
use Rattle.scope.specs.declared.Shape.{Shape}
use Rattle.scope.proofs.Rows.{passed, passed_on}
use Rattle.blackboard.proofs.Answers.{early, taken, masked_answered, masked_words, masked_refused}
use Rattle.blackboard.proofs.count_masked.Goals as goal

pub returns-in_err-shape : goal.returns-in_err-shape
returns-in_err-shape c = passed_on c.from_residual.ensures.1 ∙ sym (masked_refused _ _ _ c.in_err-shape.ensures)

pub returns-then-mask-words : goal.returns-then-mask-words
returns-then-mask-words c =
    let (none, same) = passed (early _ _) _ c.in_ok-shape.ensures in
    let w = c.words.ensures ∙ ap (λ (s : Shape). s.w) same in
    sym (masked_words _ _ _ none (omega arith))

pub open_after_under-requires-clause-bounds : goal.open_after_under-requires-clause-bounds
open_after_under-requires-clause-bounds c = let (none, same) = passed (early _ _) _ c.in_ok-shape.ensures in rw same (taken _ _ none).1

pub returns : goal.returns
returns c =
    let (none, same) = passed (early _ _) _ c.in_ok-shape.ensures in
    let w = c.words.ensures ∙ ap (λ (s : Shape). s.w) same in
    ap (λ (k : ℕ). Ok (record { 0 = k })) c.open_after_under.ensures ∙ rw same (sym (masked_answered _ _ _ none (omega arith)))
