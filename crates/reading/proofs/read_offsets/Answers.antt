-- `reading::read_offsets` meets its contract. Assumes nothing.
use Prim.Native.Nat.{ℕ, ◌≤◌, ◌+◌, ◌*◌}
use lib.Ieee.{Float, binary64, of_bits}
use lib.ListN.{length, take, drop}
use lib.Seq.{length-take-le}
use mathlib.Core.List.{List, ◌++◌}
use mathlib.Core.Path.{◌∙◌, ◌≡◌, ap, sym}
use Rattle.theory.proofs.Filling.{over-tab}
use Rattle.theory.specs.Lists.{over}
use Rattle.reading.specs.Bytes.{number_at}
use Rattle.reading.specs.Offsets.{angles_at, across_of, up_of}
use Rattle.reading.proofs.read_offsets.Goals as goal

-- the angles of the front of a list, and behind them what stood there
front_read : (s : List ℕ) (at n : ℕ) (new old : List Float) → n ≤ length old → new ≡ angles_at s at (length (take n old))
    → new ++ drop n old ≡ over (angles_at s at n) old
front_read s at n new old h e =
    ap (λ (l : List Float). l ++ drop n old) (e ∙ ap (angles_at s at) (length-take-le n old h))
    ∙ sym (over-tab (λ i. of_bits binary64 (number_at 8 s (at + 16 * i))) old n)

pub returns : goal.returns
unfolding across_of up_of
returns c =
    record {
      across_after = front_read c.args.s.now 5 c.args.n _ _ c.requires.0 c.read_angles.ensures;
      up_after = front_read c.args.s.now 13 c.args.n _ _ c.requires.1 c.read_angles-2.ensures;
    }
