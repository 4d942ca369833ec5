-- `codes::Codes::distance` meets its contract. Assumes nothing.
use mathlib.Core.Path.{◌≡◌, sym, ap, ◌∙◌}
use mathlib.Core.List.{List}
use Prim.Native.Nat.{ℕ, ◌+◌, ◌*◌, ◌/◌, ◌%◌, ◌^◌}
use native.Mathlib.Omega.{arith}
use lib.Bits.{differ}
use lib.ListN.{length, take}
use lib.Seq.{get_or-take, length-take-le}
use Rattle.theory.proofs.Sums.{sum_cong}
use Rattle.scope.specs.Codes.{bit, distance_under}
use Rattle.scope.proofs.Codes.{under_mono}
use Rattle.codes.specs.Distances.{distance_from}
use Rattle.codes.proofs.Limits.{limited-near, limited_far}
use Rattle.codes.proofs.Codes.distance.Goals as goal
use Rattle.codes.proofs.Codes.distance.Goals.{Start}

-- in the first n words only those count
distance-first : (n : ℕ) (code query mask : List ℕ) → distance_under mask (64 * n) (take n code) query ≡ distance_under mask (64 * n) code query
unfolding distance_under bit
distance-first n code query mask =
    sum_cong _ _ (64 * n) (λ j l. ap (λ (x : ℕ). differ (x / 2 ^ (j % 64) % 2) (bit query j) * bit mask j) (get_or-take n code (j / 64) 0 (omega arith)))

-- entry i's distance
abbrev D : Start → ℕ
D s = distance_from s.args.self.w s.args.self.words.now s.args.query.now s.args.mask.now s.args.i

-- over the limit in the first words
pub returns-then-limit-differing : goal.returns-then-limit-differing
returns-then-limit-differing c =
    let s : Start = search in
    let value = c.code-code.ensures.value in
    let whole = c.code-code.ensures.whole in
    let code = c.code-code.result.now in
    let few = s.args.limit / 24 + 1 in
    let long : length (take few code) ≡ few = length-take-le few code (omega arith) in
    let differ : c.differing.result ≡ distance_under s.args.mask.now (64 * few) code s.args.query.now = rw long at c.differing.ensures ∙ distance-first few code s.args.query.now s.args.mask.now in
    sym
    (limited_far s.args.limit (D s)
    (rw (← value) (omega (arith, c.if-limit-differing.true, differ, under_mono s.args.mask.now code s.args.query.now (64 * few) (64 * s.args.self.w) (omega arith)))))

pub returns-then-limit-d : goal.returns-then-limit-d
returns-then-limit-d c =
    let s : Start = search in
    let value = c.code-code.ensures.value in
    let whole = c.code-code.ensures.whole in
    sym (limited_far s.args.limit (D s) (omega (arith, c.if-limit-d.true, rw (whole, value) at c.differing-d.ensures)))

pub returns : goal.returns
returns c =
    let s : Start = search in
    let value = c.code-code.ensures.value in
    let whole = c.code-code.ensures.whole in
    let d : c.differing-d.result ≡ D s = rw (whole, value) at c.differing-d.ensures in
    rw d (sym (limited-near s.args.limit (D s) (omega (arith, c.if-limit-d.false))))
