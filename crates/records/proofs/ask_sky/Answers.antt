-- `records::ask_sky` meets its contract. Assumes nothing.
use lib.Ieee.{Float}
use mathlib.Core.List.{List}
use mathlib.Core.Path.{◌∙◌, ap₂}
use Rattle.lines.proofs.Writing.{wrote_is}
use Rattle.lines.specs.Lines.{sky_line}
use Rattle.reading.specs.Offsets.{across_of, up_of}
use Rattle.records.proofs.Arms.{angles_front}
use Rattle.scope.specs.Calls.{sky_answer}
use Rattle.records.proofs.ask_sky.Goals as goal

pub returns : goal.returns
unfolding across_of up_of
returns c =
    let p = angles_front c.args.s.now 5 c.args.n _ _ c.read_offsets.ensures.across_after in
    let q = angles_front c.args.s.now 13 c.args.n _ _ c.read_offsets.ensures.up_after in
    let e = c.code-sky.ensures ∙ ap₂ (λ (x y : List Float). sky_answer c.args.unit x y) p q in
    let number = c.number.ensures in
    record { wrote = wrote_is (λ i. sky_line (number i) (e i)) c.put_sky.ensures.wrote; short = c.put_sky.ensures.short }
