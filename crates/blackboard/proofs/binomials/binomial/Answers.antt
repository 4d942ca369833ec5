-- `blackboard::binomials::binomial` meets its contract: the whole table is that of the binomials, by computing it. Assumes nothing.
use mathlib.Core.List.{List, []}
use mathlib.Core.Path.{◌≡◌, ap, ◌∙◌}
use Prim.Native.Nat.{ℕ, ◌<◌}
use lib.ListN.{get_or}
use Rattle.theory.specs.Lists.{cat, tab}
use Rattle.theory.specs.Binomials.{binomial}
use Rattle.theory.proofs.Lists.{get_d_tab}
use Rattle.blackboard.proofs.binomials.binomial.Goals as goal

-- an entry of a square table of f
entry : (f : ℕ → ℕ → ℕ) (n s i : ℕ) → s < n → i < n → get_or (get_or (tab (λ s. tab (f s) n) n) s []) i 0 ≡ f s i
entry f n s i hs hi = ap (λ (row : List ℕ). get_or row i 0) (get_d_tab (λ s. tab (f s) n) [] n s hs) ∙ get_d_tab (f s) 0 n i hi

pub returns : goal.returns
unfolding cat binomial
returns c = entry binomial 17 c.args.s c.args.i c.requires.0 c.requires.1
