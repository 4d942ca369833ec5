-- `listed` meets its contract. Assumes nothing.
use mathlib.Core.Bool.{Bool, true, false, not, ◌&&◌}
use mathlib.Core.Path.{◌≡◌, sym, ap, ◌∙◌}
use borrow.Author.Tests.{not-true, not-false, le-leb, lt-leb}
use Rattle.scope.specs.Shape.{listed}
use Rattle.shapes.proofs.shape.listed.Goals as goal
use Rattle.shapes.proofs.shape.listed.Goals.{Else-not-known_words}

-- of three tests the first fails, the second fails, or the third decides
first-no : (a b r : Bool) → r ≡ a → r ≡ false → false ≡ (a && b)
first-no a b r e h = let f : a ≡ false = sym e ∙ h in rw f

second-no : (a b d r : Bool) → r ≡ a → r ≡ true → b ≡ false → b ≡ (a && (b && d))
second-no a b d r e h g = let f : a ≡ true = sym e ∙ h in rw (f, g)

third-says : (a b d r : Bool) → r ≡ a → r ≡ true → b ≡ true → d ≡ (a && (b && d))
third-says a b d r e h g = let f : a ≡ true = sym e ∙ h in rw (f, g)

pub returns-then-not-known_words : goal.returns-then-not-known_words
unfolding listed
returns-then-not-known_words c = first-no _ _ _ c.known_words.ensures (not-true _ (ap not c.if-not-known_words.true))

pub returns-then-q-shape : goal.returns-then-q-shape
unfolding listed
returns-then-q-shape c = third-says _ _ _ _ c.known_words.ensures (not-false _ (ap not c.if-not-known_words.false)) (le-leb _ _ c.if-q-shape.true)

pub returns-else-q-shape : goal.returns-else-q-shape
unfolding listed
returns-else-q-shape c = second-no _ _ _ _ c.known_words.ensures (not-false _ (ap not c.if-not-known_words.false)) (lt-leb _ _ c.if-q-shape.false)
