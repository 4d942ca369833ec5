-- `codes::Codes::code` meets its contract. Assumes nothing.
use mathlib.Core.Path.{◌≡◌, ap, ◌∙◌}
use Prim.Native.Nat.{ℕ, ◌+◌, ◌*◌, ◌-◌}
use native.Mathlib.Omega.{arith}
use lib.ListN.{take, drop, length-drop}
use lib.Seq.{length-take-le}
use Rattle.scope.specs.Codes.{code_of}
use Rattle.codes.proofs.Codes.code.Goals as goal

pub returns-clause-value : goal.returns-clause-value
unfolding code_of
returns-clause-value c =
    let i = c.args.i in
    let w = c.args.self.w in
    let words = c.args.self.words.now in
    let so : i * w + w - i * w ≡ w = omega arith in
    ap (λ (n : ℕ). take n (drop (i * w) words)) so

pub returns-clause-whole : goal.returns-clause-whole
returns-clause-whole c =
    let i = c.args.i in
    let w = c.args.self.w in
    let words = c.args.self.words.now in
    length-take-le (i * w + w - i * w) _ (omega (arith, length-drop (i * w) words)) ∙ omega arith
