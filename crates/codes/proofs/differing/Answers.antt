use mathlib.Core.Path.{◌≡◌, sym, ap, ◌∙◌}
use mathlib.Core.List.{List}
use Prim.Native.Nat.{ℕ, ◌+◌, ◌*◌, ◌^◌, ◌<◌}
use native.Mathlib.Omega.{arith}
use lib.Bits.{bit_and, bit_xor, and_le_l, and_le_r, xor_lt}
use lib.Count.{ones, ones-le}
use lib.ListN.{length, get_or}
use Rattle.scope.specs.Codes.{distance_under}
use Rattle.scope.proofs.Codes.{under_none, under_word, under-le}
use Rattle.codes.proofs.differing.Goals as goal

-- every word is one of 64 bits
abbrev Words : List ℕ → Type 0
Words l = (k : ℕ) → get_or l k 0 < 2 ^ 64

-- one word more, the one after k
step : (code query mask : List ℕ) → Words code → Words query → Words mask → (k r : ℕ) → r ≡ distance_under mask (64 * k) code query
    → r + ones (bit_and (bit_xor (get_or code k 0) (get_or query k 0)) (get_or mask k 0)) ≡ distance_under mask (64 * (k + 1)) code query
step code query mask hc hq hm k r e = rw e (sym (under_word mask code query k (hc k) (hq k) (hm k)))

pub loop-k-init : goal.loop-k-init
loop-k-init c = sym (under_none _ _ _)

pub overflow_add-r : goal.overflow_add-r
overflow_add-r c =
    let s = c.args in
    let k = c.loop-k.k in
    let few = c.requires.few in
    omega (arith, c.loop-k.invariant, under-le s.mask.now s.code.now s.query.now (64 * k), ones-le 64, and_le_l, and_le_r, xor_lt 64, c.type_inv.code k, c.type_inv.query k, c.type_inv.mask k)

pub loop-k-preserved : goal.loop-k-preserved
loop-k-preserved c =
    step _ _ _ (λ k. omega (arith, c.type_inv.code k)) (λ k. omega (arith, c.type_inv.query k)) (λ k. omega (arith, c.type_inv.mask k)) c.loop-k.k _ c.loop-k.invariant

pub returns : goal.returns
returns c =
    let s = c.args in
    let all : c.loop-k.k ≡ length s.code.now = omega arith in
    c.loop-k.invariant ∙ ap (λ (k : ℕ). distance_under s.mask.now (64 * k) s.code.now s.query.now) all
