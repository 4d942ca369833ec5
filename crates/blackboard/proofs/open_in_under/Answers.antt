-- `blackboard::open_in_under` meets its contract: its count is at most the number of buckets. Assumes nothing.
use mathlib.Core.Path.{◌≡◌, refl, ap, ap₂, ◌∙◌}
use mathlib.Core.List.{List}
use Prim.Native.Nat.{ℕ, ◌-◌, ◌*◌, ◌%◌, ◌^◌, ◌≤◌}
use native.Mathlib.Nat.{one-mul}
use native.Mathlib.Omega.{arith}
use lib.Count.{ones, ones-le}
use lib.Pow.{shl_exact, pow_mono}
use Rattle.theory.specs.Binomials.{L}
use Rattle.theory.proofs.Masks.{masks-le}
use Rattle.scope.specs.declared.Shape.{Shape}
use Rattle.scope.specs.Codes.{substring}
use Rattle.scope.specs.Shape.{first_bit, len}
use Rattle.scope.proofs.Codes.{substring-lt}
use Rattle.scope.proofs.Shapes.{Facts, facts, in_code}
use Rattle.blackboard.proofs.Steps.{few_radii}
use Rattle.blackboard.proofs.open_in_under.Goals as goal

-- table z of a listed shape: c of its s bits count
module _ (sh : Shape) (f : Facts sh) (mask : List ℕ) (z : ℕ) where
  abbrev c : ℕ
  c = ones (substring (first_bit sh z) (len sh z) mask)

  few : c ≤ len sh z
  few = ones-le (len sh z) _ (substring-lt (first_bit sh z) (len sh z) mask)

  -- the shift loses nothing
  exact : 1 * 2 ^ (len sh z - c) % 2 ^ 32 ≡ 2 ^ (len sh z - c)
  exact = let s = f.few_bits z in shl_exact 1 (len sh z - c) 32 (omega arith) (omega arith) ∙ one-mul _

  -- so many buckets, at most all
  product : (k : ℕ) {s ones-under b : ℕ} → s ≡ len sh z → ones-under ≡ c → b ≡ L ones-under k → 1 * 2 ^ (s - ones-under) % 2 ^ 32 * b ≡ 2 ^ (len sh z - c) * L c k
  product k e f g =
      ap₂ (λ (x y : ℕ). x * y) (ap₂ (λ (x y : ℕ). 1 * 2 ^ (x - y) % 2 ^ 32) e f ∙ exact) (g ∙ ap (λ (x : ℕ). L x k) f)

  at_most : (k : ℕ) → 2 ^ (len sh z - c) * L c k ≤ 65536
  at_most k = omega (arith, masks-le (len sh z) _ (substring-lt (first_bit sh z) (len sh z) mask) k, pow_mono (f.few_bits z))

-- what is counted of the mask's substring, where it is cut out with its first bit and its bits
counted : (sh : Shape) (mask : List ℕ) (z : ℕ) {from bits under : ℕ} → from ≡ first_bit sh z → bits ≡ len sh z → under ≡ substring from bits mask
    → ones under ≡ ones (substring (first_bit sh z) (len sh z) mask)
counted sh mask z e f g = rw (g, e, f) refl

pub substring-under-requires : goal.substring-under-requires
substring-under-requires c =
    let sh = c.args.shape in
    let f = facts sh (rw c.shape.view_is at c.shape.invariant) in
    let some = f.some_bits c.args.z in
    let few = c.bits-s.ensures.few in
    let (inside, below) = c.requires.bounds in
    (omega (arith, c.bits-s.ensures.value), omega arith, omega (arith, c.bits-s.ensures.value, c.first_bit.ensures, c.requires.long, in_code sh f c.args.z below))

pub overflow_sub-free : goal.overflow_sub-free
overflow_sub-free c =
    let sh = c.args.shape in
    let f = facts sh (rw c.shape.view_is at c.shape.invariant) in
    let s = c.bits-s.ensures.value in
    let count = counted sh c.args.mask.now c.args.z c.first_bit.ensures s c.substring-under.ensures in
    omega (arith, few sh f c.args.mask.now c.args.z)

pub radii-requires : goal.radii-requires
radii-requires c =
    let sh = c.shape.inside.shape in
    ((facts sh c.shape.invariant).some_tables, few_radii sh c.args.step c.shape.invariant (rw c.shape.view_is c.requires.bounds.0))

pub first_binomials-requires : goal.first_binomials-requires
first_binomials-requires c =
    let sh = c.args.shape in
    let f = facts sh (rw c.shape.view_is at c.shape.invariant) in
    let s = c.bits-s.ensures in
    let count = counted sh c.args.mask.now c.args.z c.first_bit.ensures s.value c.substring-under.ensures in
    (omega (arith, few sh f c.args.mask.now c.args.z), c.radii.ensures.few)

pub overflow_mul-result : goal.overflow_mul-result
overflow_mul-result c =
    let sh = c.args.shape in
    let f = facts sh (rw c.shape.view_is at c.shape.invariant) in
    let count = counted sh c.args.mask.now c.args.z c.first_bit.ensures c.bits-s.ensures.value c.substring-under.ensures in
    omega (arith, product sh f c.args.mask.now c.args.z c.radii.result c.bits-s.ensures.value count c.first_binomials.ensures, at_most sh f c.args.mask.now c.args.z c.radii.result)

pub returns : goal.returns
returns c =
    let sh = c.args.shape in
    let f = facts sh (rw c.shape.view_is at c.shape.invariant) in
    let count = counted sh c.args.mask.now c.args.z c.first_bit.ensures c.bits-s.ensures.value c.substring-under.ensures in
    let radii = rw c.shape.view_is at c.radii.ensures.value in
    product sh f c.args.mask.now c.args.z _ c.bits-s.ensures.value count (c.first_binomials.ensures ∙ ap (L _) radii)
