use mathlib.Core.Path.{◌≡◌, ◌∙◌}
use mathlib.Core.Bool.{◌||◌}
use mathlib.Core.List.{List}
use Prim.Native.Nat.{ℕ, ◌+◌, ◌<◌}
use lib.Dec.{eqb}
use lib.ListN.{length, get_or, take}
use Rattle.std.proofs.lemmas.List.{take_more}
use Rattle.std.proofs.lemmas.List.Elements.{All-get_or}
use Rattle.theory.specs.Lists.{has}
use Rattle.theory.proofs.Lists.{has-append, has_one, has-none}
use Rattle.scope.specs.Tables.{n}
use Rattle.walk.proofs.Testing
use Rattle.walk.proofs.Seen.test_all.Goals as goal

one_more : (ids : List ℕ) (k : ℕ) → k < length ids → (i : ℕ) → has i (take (k + 1) ids) ≡ (has i (take k ids) || eqb i (get_or ids k 0))
one_more ids k h i = rw (take_more ids k 0 h) (has-append i (take k ids) _ ∙ rw has_one)

pub loop-id-init : goal.loop-id-init
loop-id-init c = Testing.tests_none _ _ _ _ _ _ _ _ has-none c.requires.counted

pub test-seen-requires : goal.test-seen-requires
test-seen-requires c = record { i_bound = All-get_or (λ i. i < n c.args.ask.now.index) _ _ 0 c.loop-id-test.true c.requires.theirs; counted = c.loop-id.invariant.counted }

pub loop-id-preserved : goal.loop-id-preserved
loop-id-preserved c = Testing.tests_more _ _ _ _ _ _ _ _ _ _ _ _ _ _ (one_more _ _ c.loop-id-test.true) c.loop-id.invariant c.test-seen.ensures
