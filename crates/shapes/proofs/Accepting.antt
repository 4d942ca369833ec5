-- What an accepted index holds, and what the answer about a shape tells. Assumes nothing.
use mathlib.Core.Path.{◌≡◌, sym, ◌∙◌}
use mathlib.Core.Bool.{true}
use mathlib.Core.List.{◌++◌}
use borrow.Author.Tests.{not-false}
use Rattle.std.proofs.Common.{Result, Ok, Err}
use Rattle.theory.specs.Lists.{any}
use Rattle.theory.proofs.Tests.{or-false_left}
use Rattle.scope.specs.declared.Refusal.{Refusal}
use Rattle.scope.specs.declared.Shape.{Shape}
use Rattle.scope.specs.Shape.{listed}
use Rattle.scope.specs.Refusals.{Rows, unless, unlisted, one_to_three, allowed}
use Rattle.scope.specs.Tables.{Index}
use Rattle.scope.proofs.Rows.{Fits, fits, unless-append, passed, refuses_all}
use Rattle.shapes.specs.Lent.{Lent}

-- an accepted index is one that fits
pub fits_lent : {x : Index} → Lent x → Fits x
fits_lent l = record { shape = l.known; few = l.few; whole = l.codes; starts = l.starts; ids = l.ids }

pub lent_fits : {x : Index} → Fits x → Lent x
lent_fits f = record { known = f.shape; few = f.few; codes = f.whole; starts = f.starts; ids = f.ids }

-- an index that the early check lets pass is one
pub let_pass : (x : Index) → Ok tt ≡ allowed (one_to_three x) → Lent x
let_pass x e = lent_fits (fits x (passed (one_to_three x) tt e).0)

-- a shape that is not refused is listed
pub accepts : (sh : Shape) {s : Shape} → Ok s ≡ unless (unlisted sh) Err (Ok sh) → (listed sh ≡ true) × (s ≡ sh)
unfolding any
accepts sh e = let (none, same) = passed (unlisted sh) sh e in (not-false _ (or-false_left _ _ none), same)

-- and one that is refused has its refusal before all others
pub refuses_first : {A : Type 0} (sh : Shape) {f : Refusal} (rest : Rows) (answer : A) → Err f ≡ unless (unlisted sh) Err (Ok sh)
    → ◌≡◌ {A = Result A Refusal} (Err f) (unless (unlisted sh ++ rest) Err (Ok answer))
refuses_first sh rest answer e = sym (unless-append (unlisted sh) rest Err (Ok answer) ∙ refuses_all (unlisted sh) sh e _)
