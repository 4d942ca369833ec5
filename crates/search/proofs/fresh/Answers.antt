-- `search::fresh` meets its contract. Assumes nothing.
use mathlib.Core.Path.{refl}
use Rattle.std.proofs.Common.{rules}
use Rattle.theory.specs.Lists.{cat}
use Rattle.search.proofs.Listing
use Rattle.search.proofs.fresh.Goals as goal

pub returns : goal.returns
unfolding cat
returns c = Listing.fresh (c.fill.ensures.after (λ y h. search rules)) refl
