use Prim.Native.Nat.{◌*◌, ◌+◌, ℕ}
use lib.Ieee.{Float, binary64, of_bits}
use lib.ListN.{length, set}
use mathlib.Core.List.{List}
use mathlib.Core.Path.{◌∙◌, ◌≡◌, ap, ap₂, sym}
use native.Mathlib.Omega.{arith}
use Rattle.reading.specs.Bytes.{number_at}
use Rattle.reading.specs.Offsets.{angles_at}
use Rattle.theory.proofs.Filling.{fill-all, fill-next, fill_none}
use Rattle.theory.specs.Lists.{over}
use Rattle.reading.proofs.read_angles.Goals as goal

abbrev angle : List ℕ → ℕ → ℕ → Float
angle s at i = of_bits binary64 (number_at 8 s (at + 16 * i))

pub loop-i-init : goal.loop-i-init
loop-i-init c = sym (fill_none (angle c.args.s.now c.args.at) c.args.list.now)

pub loop-i-preserved : goal.loop-i-preserved
loop-i-preserved c =
    let f = angle c.args.s.now c.args.at in
    let i = c.loop-i.i in
    let v : c.f64_from_bits_with_nan.result ≡ f i = c.f64_from_bits_with_nan.ensures ∙ ap (of_bits binary64) c.eight_at.ensures in
    ap₂ (λ (l : List Float) (x : Float). set l i x) c.loop-i.invariant v ∙ fill-next f c.args.list.now i c.loop-i-test.true

pub returns : goal.returns
returns c =
    let e : c.loop-i.i ≡ length c.args.list.now = omega arith in
    c.loop-i.invariant ∙ ap (λ n. over (angles_at c.args.s.now c.args.at n) c.args.list.now) e
    ∙ fill-all (angle c.args.s.now c.args.at) c.args.list.now
