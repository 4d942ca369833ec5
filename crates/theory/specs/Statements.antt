-- 01: "its statement determines that result and every place of each list lent to it". Assumes nothing.
use Rattle.std.specs.Prelude.{◌≡◌}
use seplogic.Ra.Ura.{Ura}
use base.Logic.{SProp}
use prog.Memory.{Memory}
use prog.Routine.{Routine}
use types.Logic.{Logic}
use contract.Lifetimes.{Lfts}
use contract.Monad.{Fun, fact}
use denote.Triple.Entry.{Args, Res}
use denote.Triple.Clauses.{Ended, Clauses, Lasts, AtExit, at_exit}

-- a function's parameters and result
module _ (f : Ended) where
  -- what its statement says of the arguments, the result and the parameters at the end
  abbrev pub States : Type 1
  States = (κs : Lfts f.signature.lifetimes) → Args f.signature κs → Res f.signature κs → AtExit f κs → Type 0

  -- how a call can end: its result, and what stands at the end behind each `&mut`, one number or a whole list
  abbrev pub End : (κs : Lfts f.signature.lifetimes) → Args f.signature κs → Type 0
  End κs a = Res f.signature κs × Lasts f κs a

  -- of any call, any two ends that the statement allows are equal
  abbrev pub Determined : States → Type 0
  Determined states =
      (κs : Lfts f.signature.lifetimes) (a : Args f.signature κs) (x y : End κs a) → states κs a x.0 (at_exit f κs a x.1)
      → states κs a y.0 (at_exit f κs a y.1) → x ≡ y

  -- a statement as clauses over any model, which a proof by hand goes by
  abbrev pub Written : Type 2
  Written = (M : Type 1) (𝓤 : Ura M) (𝓛 : Logic 𝓤) → (Memory → SProp 𝓤) → (Routine → Fun 𝓤) → Clauses 𝓤 f

  -- its `ensures` says one fact, in every model, and that fact determines the end
  pub record DeterminedByHand (clauses : Written) : Type 2 where
    pub states : States
    pub says : (M : Type 1) (𝓤 : Ura M) (𝓛 : Logic 𝓤) (mem : Memory → SProp 𝓤) (run : Routine → Fun 𝓤) (κs : Lfts f.signature.lifetimes) (a : Args f.signature κs)
        (g : (clauses M 𝓤 𝓛 mem run κs a).ghost) (r : Res f.signature κs) (end : AtExit f κs) → (clauses M 𝓤 𝓛 mem run κs a).ensures g r end ≡ fact 𝓤 (states κs a r end)
    pub determined : Determined states
