-- A mask under which no bit counts. Assumes nothing.
use Rattle.std.specs.Prelude.{List, ℕ}
use Rattle.theory.specs.Lists.{tab}

abbrev pub all_zeros : ℕ → List ℕ
all_zeros w = tab (λ _. 0) w
