-- `walk::Seen::test` meets its contract. Assumes nothing.
use mathlib.Core.Path.{◌≡◌, sym, ap, ◌∙◌}
use Prim.Native.Nat.{ℕ, ◌*◌, ◌≤◌, ◌<◌}
use native.Mathlib.Omega.{arith}
use Rattle.scope.proofs.Codes.{under-le}
use Rattle.scope.proofs.Shapes.{facts}
use Rattle.scope.specs.Codes.{code_of}
use Rattle.scope.specs.Refusals.{mark_words}
use Rattle.scope.specs.Tables.{n}
use Rattle.scope.specs.Walk.{Question, distance_of}
use Rattle.codes.proofs.Limits.{is_exact, is_over}
use Rattle.codes.specs.Distances.{limited}
use Rattle.std.specs.Prelude.{Some}
use Rattle.walk.specs.Asked.{Asked}
use Rattle.walk.proofs.Testing
use Rattle.walk.proofs.Seen.test.Goals as goal

-- d is its distance, and within the limit
exact : (limit distance d : ℕ) → Some d ≡ limited limit distance → (d ≡ distance) × (d ≤ limit)
exact limit distance d e = let (is, near) = is_exact limit distance d (sym e) in (is, omega arith)

-- entry i has a place among the marks, which are few
module _ (ask : Question) (h : Asked ask) (i : ℕ) (l : i < n ask.index) where
  inside : i < 64 * mark_words (n ask.index)
  inside = omega arith

  few : mark_words (n ask.index) ≤ 1024
  few = let f = h.lent.few in omega arith

  near : distance_of ask i ≤ 256
  near = let w = (facts _ h.lent.known).few_words in omega (arith, under-le ask.mask (code_of ask.index.shape.w ask.index.codes i) ask.query (64 * ask.index.shape.w))

pub overflow_add-tested : goal.overflow_add-tested
overflow_add-tested c =
    let a = rw c.ask.view_is at c.ask.invariant in
    omega (arith, Testing.few_tested _ _ _ _ _ _ _ c.requires.counted (few _ a c.args.i c.requires.i_bound))

-- over the limit
pub returns-in_default : goal.returns-in_default
returns-in_default c =
    let a = rw c.ask.view_is at c.ask.invariant in
    let new = sym c.marked.ensures ∙ c.if-marked.false in
    Testing.tests-over _ _ _ _ _ _ _ c.requires.counted _ (inside _ a _ c.requires.i_bound) new _ c.mark.ensures (is_over c.args.self.limit _ (sym c.in_default.ensures))

pub count-requires : goal.count-requires
count-requires c =
    let a = rw c.ask.view_is at c.ask.invariant in
    let new = sym c.marked.ensures ∙ c.if-marked.false in
    let d = exact _ _ _ c.in-Some.ensures in
    Testing.count-asks _ _ _ _ _ _ _ c.requires.counted _ (inside _ a _ c.requires.i_bound) new (few _ a _ c.requires.i_bound) _ _ _ c.in-Nearest.is d.0 d.1

pub join-best-requires : goal.join-best-requires
join-best-requires c =
    let a = rw c.ask.view_is at c.ask.invariant in
    let d = exact _ _ _ c.in-Some.ensures in
    let l = rw (← c.ask.view_is) at c.requires.i_bound in
    let many = c.ask.invariant.lent.few in
    (l, omega arith, omega (arith, d.0, near _ a _ c.requires.i_bound))

pub returns-in-Nearest : goal.returns-in-Nearest
returns-in-Nearest c =
    let a = rw c.ask.view_is at c.ask.invariant in
    let new = sym c.marked.ensures ∙ c.if-marked.false in
    let d = exact _ _ _ c.in-Some.ensures in
    Testing.tests-counted _ _ _ _ _ _ _ c.requires.counted _ (inside _ a _ c.requires.i_bound) new _ c.mark.ensures _ d.0 d.1 _ _ c.in-Nearest.is _ _ c.count.ensures

pub returns-in-TwoStars : goal.returns-in-TwoStars
returns-in-TwoStars c =
    let a = rw c.ask.view_is at c.ask.invariant in
    let new = sym c.marked.ensures ∙ c.if-marked.false in
    let d = exact _ _ _ c.in-Some.ensures in
    let x = ap (λ (q : Question). q.index) c.ask.view_is in
    let joins = rw x at c.join-best.ensures in
    rw c.distance-in-TwoStars.ensures
    (Testing.tests-stars _ _ _ _ _ _ _ c.requires.counted _ (inside _ a _ c.requires.i_bound) new _ c.mark.ensures _ d.0 c.in-TwoStars.is _ joins)
