-- `codes::mark` meets its contract. Assumes nothing.
use native.Mathlib.Nat.{mod-lt, zero-lt-suc}
use mathlib.Core.Path.{ap}
use Prim.Native.Nat.{ℕ, ◌/◌, ◌%◌}
use lib.Bits.{bit_or}
use lib.ListN.{get_or, set}
use Rattle.theory.proofs.Numbers.{one_shl}
use Rattle.codes.specs.Marks.{with_mark}
use Rattle.codes.proofs.mark.Goals as goal

pub returns : goal.returns
unfolding with_mark
returns c =
    let marks = c.args.marks.now in
    let i = c.args.i in
    ap (λ (v : ℕ). set marks (i / 64) (bit_or (get_or marks (i / 64) 0) v)) (one_shl (i % 64) (mod-lt i (zero-lt-suc 63)))
