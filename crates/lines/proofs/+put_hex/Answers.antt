use Prim.Native.Nat.{◌-◌, ◌/◌}
use native.Mathlib.Omega.{arith}
use Rattle.lines.proofs.Digits.{hex-length, hex-none, hex_more}
use Rattle.lines.proofs.+put_hex.Goals as goal

pub bounds-out-p : goal.bounds-out-p
bounds-out-p t c = omega (arith, c.put_hex-p.ensures.place, c.put_hex-p.auto.out, hex-length (c.args.k - 1) (c.args.n / 16))

pub overflow_add-result : goal.overflow_add-result
overflow_add-result t c =
    omega (arith, c.put_hex-p.ensures.place, c.put_hex-p.auto.out, hex-length (c.args.k - 1) (c.args.n / 16))

pub returns-then-k-eq0 : goal.returns-then-k-eq0
returns-then-k-eq0 t c = hex-none _ _ _ _ c.if-k-eq0.true

pub returns-else-k-eq0 : goal.returns-else-k-eq0
returns-else-k-eq0 t c = hex_more _ _ _ _ _ _ _ c.if-k-eq0.false c.put_hex-p.ensures c.glyph.ensures
