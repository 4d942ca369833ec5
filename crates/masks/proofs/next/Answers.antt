-- `masks::next` meets its contract. Assumes nothing.
use mathlib.Core.Path.{◌≡◌, sym, ap, ◌∙◌, subst}
use Prim.Native.Nat.{ℕ, ◌+◌, ◌-◌, ◌*◌, ◌/◌, ◌%◌, ◌^◌, ◌≤◌}
use native.Mathlib.Nat.{mod-eq_of_lt, mod-le}
use native.Mathlib.Omega.{arith}
use lib.Bits.{bit_and}
use lib.Count.{ones}
use Rattle.masks.specs.Masks.{Lowest}
use Rattle.masks.proofs.Firsts.{Steps, steps}
use Rattle.masks.proofs.next.Goals as goal
use Rattle.masks.proofs.next.Goals.{After-place-p}

by : (c : After-place-p) → Steps c.args.under c.args.r c.args.e c.place-p.result
by c = rw c.place-p.ensures (steps c.args.under c.args.r c.args.e (omega arith) c.requires.0 c.requires.1)

-- the shift stays within the word
shifted : (c : After-place-p) → (c.args.e / 2 ^ c.place-p.result + 1) * 2 ^ c.place-p.result % 18446744073709551616 ≡ (by c).up
shifted c = let s = by c in let few = s.few in ap (λ (n : ℕ). n % 18446744073709551616) s.up_is ∙ mod-eq_of_lt (omega arith)

pub overflow_shr-up : goal.overflow_shr-up
overflow_shr-up c = omega (arith, (by c).low)

pub overflow_shl-up : goal.overflow_shl-up
overflow_shl-up c = omega (arith, (by c).low)

pub overflow_sub-missing : goal.overflow_sub-missing
overflow_sub-missing c = subst (λ (up : ℕ). ones (bit_and up c.args.under) ≤ c.args.r) (sym (shifted c)) (by c).fewer

pub lowest-requires : goal.lowest-requires
lowest-requires c =
    subst (λ (up : ℕ). c.args.r - ones (bit_and up c.args.under) ≤ ones c.args.under) (sym (shifted c)) (by c).enough

pub overflow_add-result : goal.overflow_add-result
overflow_add-result c =
    let at-place-p : After-place-p = search in
    let l = c.lowest.ensures in
    let part = l.part in
    record { fits = omega (arith, shifted at-place-p, (by at-place-p).few, mod-le c.args.under (2 ^ l.place)) }

pub returns : goal.returns
returns c =
    let at-place-p : After-place-p = search in
    let s = c.args in
    ap (λ (up : ℕ). up + c.lowest.result) (shifted at-place-p)
    ∙ (by at-place-p).next _ (subst (λ (up : ℕ). Lowest s.under (s.r - ones (bit_and up s.under)) c.lowest.result) (shifted at-place-p) c.lowest.ensures)
