-- `search::list_nearest` meets its contract. Assumes nothing.
use mathlib.Core.Path.{◌≡◌, sym, ap, ◌∙◌}
use Prim.Native.Nat.{ℕ}
use lib.ListN.{length}
use borrow.Author.Rules.{rules}
use Rattle.std.specs.Prelude.{Ok, Result}
use Rattle.scope.specs.declared.Refusal.{Refusal}
use Rattle.scope.specs.declared.Report.{Report}
use Rattle.scope.specs.Calls.{asked, leaves}
use Rattle.scope.proofs.Rows.{passed_on}
use Rattle.search.specs.Past.{nearest_past}
use Rattle.search.proofs.Listing
use Rattle.search.proofs.list_nearest.Goals as goal
use Rattle.search.proofs.list_nearest.Goals.{After-list}

-- once `list` is done, all is as it should be, with the answer that the walk gives
after : (c : After-list) → (o : Result Report Refusal) → o ≡ Listing.found_near c.args.k c.list.result
    → leaves o c.list.new.marks c.list.new.entries c.list.new.distances
    ≡ nearest_past (asked c.args.ask.now c.args.marks.now c.args.entries.now c.args.distances.now) c.args.k
after c o e =
    let long : length c.nearest-walked.new.marks ≡ length c.args.marks.now = search rules in
    let l = c.list.ensures in
    Listing.list_leaves c.args.ask.now c.requires.cut _ _ long l.marks_after l.entries_after l.distances_after
    (e ∙ ap (Listing.found_near c.args.k) l.same)
    ∙ sym (Listing.nearest_after c.args.ask.now c.requires.k_in_bounds c.requires.cut _ _ _ c.nearest-walked.ensures)

pub returns-in_err-w : goal.returns-in_err-w
returns-in_err-w c = rw (passed_on c.from_residual.ensures.1) (after (goal.at.returns-in_err-w c).After-list _ (sym (ap (Listing.found_near c.args.k) c.in_err-w.was)))

pub returns : goal.returns
returns c =
    let w = c.in_ok-w.w in
    after (goal.at.returns c).After-list _
    (ap (λ (a : ℕ). Ok (record { answers = a; opened = w.opened; tested = w.seen.tested })) c.min.ensures ∙ sym (ap (Listing.found_near c.args.k) c.in_ok-w.was))
