-- What the searches answer and leave once none of refusals 1 to 5 fits. Assumes nothing.
use Rattle.std.specs.Prelude.{ℕ, min, ◌++◌, length, Result, Ok, Err}
use Rattle.scope.specs.declared.Report.{Report}
use Rattle.scope.specs.declared.Refusal.{Refusal}
use Rattle.scope.specs.declared.VerdictReport.{VerdictReport}
use Rattle.scope.specs.Tables.{n}
use Rattle.scope.specs.Walk.{Question}
use Rattle.scope.specs.Search.{K, nearest_steps, nearest, within_steps, within}
use Rattle.scope.specs.Verdict.{verdict_steps, nearest_rivals}
use Rattle.scope.specs.Refusals.{unless, too_many}
use Rattle.scope.specs.Calls.{Asked, room, walked, report, SearchEnd, search_end, verdict_report}

unfoldable pub nearest_found : Asked → ℕ → Result Report Refusal
nearest_found c k =
    let ask = c.question in
    unless (walked ask (nearest_steps ask k)) Err (Ok (report ask (nearest_steps ask k) (nearest ask k)))

unfoldable pub nearest_past : Asked → ℕ → SearchEnd
nearest_past c k = search_end c (nearest_found c k) (K c.question.index k) (nearest c.question k)

unfoldable pub within_found : Asked → ℕ → Result Report Refusal
within_found c r =
    let ask = c.question in
    let N = within_steps ask.index r in
    unless (walked ask N ++ too_many (length (within ask r)) (room c)) Err (Ok (report ask N (within ask r)))

unfoldable pub within_past : Asked → ℕ → SearchEnd
within_past c r = search_end c (within_found c r) (min (n c.question.index) (room c)) (within c.question r)

unfoldable pub verdict_found : Question → ℕ → ℕ → Result VerdictReport Refusal
verdict_found ask t g =
    unless (walked ask (verdict_steps ask)) Err (Ok (verdict_report ask t g (verdict_steps ask) (nearest_rivals ask)))
