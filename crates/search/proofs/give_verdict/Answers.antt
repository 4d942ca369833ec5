-- `search::give_verdict` meets its contract. Assumes nothing.
use mathlib.Core.Path.{◌≡◌, ap, ◌∙◌}
use mathlib.Core.List.{[]}
use Rattle.std.proofs.Common.{rules, length}
use Rattle.theory.specs.Lists.{padded}
use Rattle.scope.specs.Walk.{Question, distance_of}
use Rattle.scope.specs.Verdict.{nearest_rivals}
use Rattle.scope.proofs.Rows.{passed_on}
use Rattle.theory.proofs.Filling.{zeros}
use Rattle.search.proofs.Verdicts
use Rattle.search.proofs.give_verdict.Goals as goal
use Rattle.search.proofs.give_verdict.Goals.{After-fill}

cleared : (c : After-fill) → c.fill.new.self ≡ padded (length c.args.marks.now) []
cleared c =
    let long : length c.verdict-walked.new.marks ≡ length c.args.marks.now = search rules in
    rw (← long) (c.fill.ensures.after (λ y h. search rules) ∙ zeros _)

pub returns-in_err-w : goal.returns-in_err-w
returns-in_err-w c =
    record {
      value = passed_on c.from_residual.ensures.1 ∙ Verdicts.found_refused _ c.args.t c.args.g _ c.in_err-w.ensures;
      marks_after = cleared (goal.at.returns-in_err-w c).After-fill;
    }

pub returns : goal.returns
returns c =
    let a = rw c.ask.view_is at c.ask.invariant in
    let ask = c.args.ask.now in
    let says = rw (ap (λ (a : Question). a.index.stars) c.ask.view_is) at c.judge-verdict.ensures in
    record {
      value = Verdicts.found_given _ c.args.t c.args.g _ _ _ c.in_ok-w.ensures _
          (says (distance_of ask) (nearest_rivals ask) (Verdicts.rivals_stand ask _ _ _ a c.in_ok-w.ensures.1));
      marks_after = cleared (goal.at.returns c).After-fill;
    }
