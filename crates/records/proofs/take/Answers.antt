-- `records::take` meets its contract. Assumes nothing.
use mathlib.Core.Path.{◌∙◌, ap}
use Rattle.std.specs.Prelude.{Some, Ok}
use Rattle.reading.proofs.Going.{entry_next}
use Rattle.reading.specs.declared.Record.{Record}
use Rattle.records.proofs.Arms.{stars_fit}
use Rattle.records.proofs.take.Goals as goal

pub keep-requires : goal.keep-requires
keep-requires c = (entry_next c.args.session c.args.s.now _ _ (c.requires ∙ ap (λ (r : Record). Ok (Some r)) c.in-Entry.is)).2

pub answer-requires : goal.answer-requires
answer-requires c = stars_fit c.args.session c.args.s.now _ (c.requires ∙ ap (λ (r : Record). Ok (Some r)) c.in-Ask.is)
