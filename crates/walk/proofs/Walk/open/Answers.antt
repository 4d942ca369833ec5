-- `walk::Walk::open` meets its contract. Assumes nothing.
use mathlib.Core.Path.{refl, sym, ◌∙◌}
use Rattle.walk.proofs.Opening
use Rattle.walk.proofs.Walk.open.Goals as goal

pub returns-then-is_bad : goal.returns-then-is_bad
returns-then-is_bad c = Opening.opening-refused _ _ _ _ _ _ _ _ _ _ c.refusal.ensures (sym c.is_bad.ensures ∙ c.if-is_bad.true)

pub returns : goal.returns
returns c = Opening.opening_one _ _ _ _ _ _ _ _ _ (sym c.is_bad.ensures ∙ c.if-is_bad.false) refl (rw c.entries.ensures.all at c.test_all-self.ensures)
