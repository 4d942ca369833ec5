use mathlib.Core.Path.{◌≡◌, refl}
use mathlib.Core.Bool.{true}
use mathlib.Core.List.{List, [], ◌∷◌}
use Prim.Native.Nat.{ℕ, suc, min, ◌+◌, ◌≤◌, ◌<◌}
use native.Mathlib.Omega.{arith}
use lib.Bits.{bit_xor, xor_lt}
use Rattle.theory.specs.Lists.{first_from}
use Rattle.theory.proofs.Lists.{first_ge, first_passes}
use Rattle.masks.specs.Masks.{has_ones}
use Rattle.scope.proofs.Codes.{substring-lt}
use Rattle.scope.specs.Shape.{len}
use Rattle.scope.specs.Walk.{Question}
use Rattle.scope.proofs.Rows.{passed_on}
use Rattle.walk.specs.declared.Aim.{Aim}
use Rattle.walk.specs.declared.Walk.{Walk}
use Rattle.walk.specs.Steps.{Met, around, Opening, Seeing}
use Rattle.walk.proofs.Opening as opening
use borrow.Author.Rules.{rules}
use Rattle.walk.proofs.Walk.open_all.Invariants.{Through}
use Rattle.walk.proofs.Walk.open_all.Goals as goal

module _ {ask : Question} {goal : Aim} {z r sub buckets under : ℕ} {w o : Walk} {marks marks' tally tally' : List ℕ} {e : ℕ} (h : Through ask goal z r sub buckets under w o marks marks' tally tally' e) where
  many : o.opened.0 ≤ w.opened.0 + e
  many = let sum = (h.opened.clear refl).opened in omega (arith, opening.around_few z under r sub (min e buckets))

  abbrev after : ℕ
  after = first_from (has_ones under r) (e + 1) 65536

  past : e < after
  past = omega (arith, first_ge (has_ones under r) (e + 1) 65536)

  passes : after < buckets → has_ones under r after ≡ true
  passes l = let few = h.few in first_passes (has_ones under r) 65536 (e + 1) (omega arith)

  -- with bucket e too, all are open that belong below k, which is not past the next
  more : e < buckets → (u : Walk) (end : Met) (marks'' tally'' : List ℕ) → Opening ask goal ((z, bit_xor sub e) ∷ []) o u end marks' marks'' tally''
      → (k : ℕ) → e < k → k ≤ buckets → k ≤ after → Opening ask goal (around z under r sub k) w u end marks marks'' tally''
  more l u end marks'' tally'' g k above inside below =
      let here : min e buckets ≡ e = omega arith in
      rw (opening.around-next z under r sub 65536 e k (h.here l) above below)
      (opening.opening_more ask goal w marks _ _ o u end marks' tally' marks'' tally'' (rw here at h.opened) g)

-- no bucket is open up to the first number with r ones under the mask
begin : {ask : Question} {goal : Aim} {z r sub buckets under : ℕ} {w : Walk} {marks tally : List ℕ} (e : ℕ) → buckets ≤ 65536 → e ≡ first_from (has_ones under r) 0 65536
    → Seeing ask goal w.seen marks tally → Through ask goal z r sub buckets under w w marks marks tally tally e
begin {ask} {goal} {z} {r} {sub} {buckets} {under} {w} {marks} {tally} e few f counted =
    record {
      few = few;
      here = λ l. rw f (first_passes (has_ones under r) 65536 0 (omega arith));
      opened = rw (opening.around-first z under r sub 65536 (min e buckets) (omega arith)) (opening.opening-none ask goal w marks tally counted);
      same-marks = refl;
      same-tally = refl;
    }

pub loop-e-init : goal.loop-e-init
loop-e-init c = begin c.first-e.result c.buckets-buckets.ensures.few c.first-e.ensures c.requires.counted

pub bucket-requires : goal.bucket-requires
bucket-requires c =
    let t = c.args.table.now in
    let is = c.buckets-buckets.ensures.value in
    let l = c.loop-e-test.true in
    xor_lt (len t.ask.now.index.shape t.z) c.substring-sub.result c.loop-e.e (rw c.substring-sub.ensures (substring-lt _ _ _)) (omega arith)

pub open-requires : goal.open-requires
open-requires c =
    let i = c.loop-e.invariant in
    let l = c.loop-e-test.true in
    let b = c.requires.room in
    let few = i.few in
    let (t, v) = c.bucket.ensures in
    rw t (record { room = omega (arith, many i); counted = (i.opened.clear refl).counted })

pub returns-in_err-open : goal.returns-in_err-open
returns-in_err-open c =
    let t = c.args.table.now in
    let is = c.buckets-buckets.ensures.value in
    let i = c.loop-e.invariant in
    let l = c.loop-e-test.true in
    let (same, v) = c.bucket.ensures in
    let opened = rw (same, v) at c.in_err-open.ensures in
    rw (passed_on c.from_residual.ensures.1, ← c.substring-sub.ensures, ← c.under-under.ensures)
    (opening.around-bad t.z c.under-under.result c.args.r c.substring-sub.result _ _ _ _ _ _ _ _ (suc c.loop-e.e) _ (omega arith)
    (more i (omega arith) _ _ _ _ opened (suc c.loop-e.e) (omega arith) (omega arith) (past i)))

pub loop-e-smaller : goal.loop-e-smaller
loop-e-smaller c =
    let l = c.loop-e-test.true in
    let n = c.next-e.ensures in
    omega (arith, past c.loop-e.invariant)

pub loop-e-preserved : goal.loop-e-preserved
loop-e-preserved c =
    record {
      few = c.loop-e.invariant.few;
      here = rw c.next-e.ensures (passes c.loop-e.invariant);
      opened =
          let i = c.loop-e.invariant in
          let l = c.loop-e-test.true in
          let n = c.next-e.ensures in
          let behind = past i in
          let (t, v) = c.bucket.ensures in
          more i (omega arith) _ _ _ _ (rw (t, v) at c.in_ok-open.ensures) _ (omega arith) (omega arith) (omega arith);
      same-marks = search rules;
      same-tally = search rules;
    }
