-- `search::list_within` meets its contract. Assumes nothing.
use mathlib.Core.Path.{◌≡◌, sym, ap, ◌∙◌}
use Prim.Native.Nat.{◌≤◌, ◌<◌}
use native.Mathlib.Omega.{arith}
use lib.ListN.{length}
use borrow.Author.Rules.{rules}
use borrow.Author.Tests.{lt-ltb, le-ltb}
use Rattle.std.specs.Prelude.{Result}
use Rattle.scope.specs.declared.Refusal.{Refusal}
use Rattle.scope.specs.declared.Report.{Report}
use Rattle.scope.specs.Calls.{asked, leaves}
use Rattle.scope.proofs.Rows.{passed_on}
use Rattle.search.specs.Past.{within_past}
use Rattle.search.proofs.Listing
use Rattle.search.proofs.list_within.Goals as goal
use Rattle.search.proofs.list_within.Goals.{After-list}

-- once `list` is done, all is as it should be, with the answer that the walk gives
after : (c : After-list) → (o : Result Report Refusal) → o ≡ Listing.found_within (length c.args.entries.now) c.list.result
    → leaves o c.list.new.marks c.list.new.entries c.list.new.distances
    ≡ within_past (asked c.args.ask.now c.args.marks.now c.args.entries.now c.args.distances.now) c.args.r
after c o e =
    let (_, some, few) = c.requires.bounds in
    let long : length c.within-walked.new.marks ≡ length c.args.marks.now = search rules in
    let l = c.list.ensures in
    Listing.list_leaves c.args.ask.now c.requires.cut _ _ long l.marks_after l.entries_after l.distances_after
    (e ∙ ap (Listing.found_within (length c.args.entries.now)) l.same)
    ∙ sym (Listing.within_after c.args.ask.now c.args.r few some c.requires.cut _ _ _ c.within-walked.ensures)

pub returns-in_err-w : goal.returns-in_err-w
returns-in_err-w c =
    rw (passed_on c.from_residual.ensures.1) (after (goal.at.returns-in_err-w c).After-list _ (sym (ap (Listing.found_within (length c.args.entries.now)) c.in_err-w.was)))

pub returns-then-entries-answers : goal.returns-then-entries-answers
returns-then-entries-answers c =
    let l : length c.args.entries.now < c.in_ok-w.w.seen.near = omega arith in
    after (goal.at.returns-then-entries-answers c).After-list _ (rw (c.in_ok-w.was, lt-ltb _ _ l))

pub returns : goal.returns
returns c =
    let l : c.in_ok-w.w.seen.near ≤ length c.args.entries.now = omega arith in
    after (goal.at.returns c).After-list _ (rw (c.in_ok-w.was, le-ltb _ _ l))
