-- The first line of a session, when the first question comes, or the end; empty input prints nothing. Assumes nothing.
use Rattle.std.specs.Prelude.{ℕ, cond, List, [], eqb}
use Rattle.reading.specs.declared.Session.{Session}
use Rattle.lines.specs.Lines.{stars_line}

abbrev pub opening : Session → List ℕ
opening session = cond session.asked [] (stars_line session.entries)

abbrev pub ending : Session → List ℕ
ending session = cond (eqb session.words 0) [] (opening session)
