-- `lines::put_text` meets its contract. Assumes nothing.
use Prim.Native.Nat.{◌+◌, ◌-◌}
use mathlib.Core.Path.{◌≡◌, refl}
use native.Mathlib.Omega.{arith}
use lib.ListN.{length}
use mathlib.Core.List.{append_assoc}
use Rattle.std.proofs.lemmas.List.{drop-drop}
use Rattle.std.proofs.lemmas.List.Edits.{sets-eq}
use Rattle.lines.proofs.put_text.Goals as goal

pub returns : goal.returns
returns c =
    let t = c.args.text.now in
    let n : c.args.at + length t - c.args.at ≡ length t = omega arith in
    record { list = rw (c.copy_from_slice.ensures.after, sets-eq t c.args.out.now c.args.at c.requires, n, drop-drop, append_assoc); place = refl }
