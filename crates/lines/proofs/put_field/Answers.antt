-- `lines::put_field` meets its contract. Assumes nothing.
use native.Mathlib.Omega.{arith}
use Rattle.lines.proofs.Digits.{hex-length}
use Rattle.lines.proofs.Writing.{put_whole}
use Rattle.lines.proofs.put_field.Goals as goal

pub returns-in-Code : goal.returns-in-Code
returns-in-Code c = rw c.in-Code.is (put_whole c.put_hex.ensures (omega (arith, hex-length 16 c.in-Code.code)))
