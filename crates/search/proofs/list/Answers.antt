-- `search::list` meets its contract. Assumes nothing.
use mathlib.Core.Path.{◌∙◌}
use Rattle.std.proofs.Common.{rules}
use Rattle.theory.proofs.Filling.{zeros}
use Rattle.search.proofs.Listing
use Rattle.search.proofs.list.Goals as goal

-- ---- a bad bucket was met: zeros

pub returns-in-Err-clause-marks_after : goal.returns-in-Err-clause-marks_after
returns-in-Err-clause-marks_after c = c.fill.ensures.after (λ y h. search rules) ∙ zeros _

pub returns-in-Err-clause-entries_after : goal.returns-in-Err-clause-entries_after
returns-in-Err-clause-entries_after c = rw c.in-Err.is (c.fill-in-Err.ensures.after (λ y h. search rules) ∙ zeros _)

pub returns-in-Err-clause-distances_after : goal.returns-in-Err-clause-distances_after
returns-in-Err-clause-distances_after c = rw (c.in-Err.is, ← c.requires.places) (c.fill-in-Err-2.ensures.after (λ y h. search rules) ∙ zeros _)

-- ---- the marked entries in their order

pub rank-requires : goal.rank-requires
rank-requires c =
    let l = rw (← c.ask.view_is) at (rw c.in-Ok.is at c.requires.listable) in
    let (codes, w) = c.codes.ensures in
    rw (codes, w, c.entries-n.ensures.value) (Listing.rankable _ _ _ _ l c.ask.invariant _ _ c.requires.places)

pub returns : goal.returns
returns c =
    let l = rw (← c.ask.view_is) at (rw c.in-Ok.is at c.requires.listable) in
    let (codes, w) = c.codes.ensures in
    let (marks, entries, distances) = Listing.whole _ _ _ _ l c.requires.places (rw (codes, w, c.entries-n.ensures.value) at c.rank.ensures) in
    record {
      same = search rules;
      marks_after = marks;
      entries_after = rw (c.in-Ok.is, ← c.ask.view_is) entries;
      distances_after = rw (c.in-Ok.is, ← c.ask.view_is) distances;
    }
