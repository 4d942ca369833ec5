-- `records::keep` meets its contract. Assumes nothing.
use Prim.Native.Nat.{◌+◌, ◌*◌, ◌-◌, ◌≤◌}
use mathlib.Core.Path.{◌≡◌}
use mathlib.Core.List.{append_assoc}
use native.Mathlib.Nat.{mul-le-mul}
use native.Mathlib.Omega.{arith}
use lib.ListN.{length}
use Rattle.std.proofs.lemmas.List.{drop-drop}
use Rattle.std.proofs.lemmas.List.Edits.{sets-eq}
use Rattle.records.proofs.keep.Goals as goal

pub returns : goal.returns
returns c =
    let words = c.words-words.result.now in
    let at = length words * c.args.session.entries in
    let n : at + length words - at ≡ length words = omega arith in
    let room : at + length words ≤ length c.args.catalogue.now.codes =
    let most : c.args.session.entries ≤ 511 = omega arith in omega (arith, mul-le-mul c.words-words.ensures.1 most) in
    rw (c.copy_from_slice.ensures.after, ← c.words-words.ensures.0, sets-eq words c.args.catalogue.now.codes at room, n, drop-drop, append_assoc)
