-- 01, "Session program": the lines. Each question's begin with its record number. Assumes nothing.
use Rattle.std.specs.Prelude.{ℕ, List, [], ◌∷◌, ◌++◌, get_or, Result, Ok, Err, codes, decimal}
use Rattle.scope.specs.declared.VerdictReport.{VerdictReport}
use Rattle.theory.specs.Lists.{cat}
use Rattle.scope.specs.declared.Refusal.{Refusal}
use Rattle.scope.specs.declared.Report.{Report}
use Rattle.scope.specs.declared.Verdict.{Verdict}
use Rattle.scope.specs.declared.Verdict.TheVariants as verdict
use Rattle.scope.specs.Refusals.{refusal}
use Rattle.lines.specs.Text.{hex, line}

-- ---- the words

abbrev pub stars : List ℕ
stars = codes "stars"

abbrev pub bad : List ℕ
bad = codes "bad"

abbrev pub refused : List ℕ
refused = codes "refused"

abbrev pub near : List ℕ
near = codes "near"

abbrev pub within : List ℕ
within = codes "within"

abbrev pub match : List ℕ
match = codes "match"

abbrev pub unsure : List ℕ
unsure = codes "unsure"

abbrev pub none : List ℕ
none = codes "none"

abbrev pub code : List ℕ
code = codes "code"

-- ---- the lines

-- `stars` and n; `bad` and a record's number
abbrev pub stars_line : ℕ → List ℕ
stars_line n = line (stars ∷ decimal n ∷ [])

abbrev pub bad_line : ℕ → List ℕ
bad_line number = line (bad ∷ decimal number ∷ [])

-- `refused` and the refusal's number
abbrev pub refused_line : ℕ → Refusal → List ℕ
refused_line number why = line (decimal number ∷ refused ∷ decimal (refusal why).0 ∷ [])

-- `near` or `within`, the number of answers, buckets, tested
abbrev pub counts_line : List ℕ → ℕ → Report → List ℕ
counts_line word number report =
    line (decimal number ∷ word ∷ decimal report.answers ∷ decimal report.opened.0 ∷ decimal report.tested.0 ∷ [])

-- a line for each of the first n answers: entry, star, distance
abbrev pub answer_line : ℕ → ℕ → ℕ → List ℕ
answer_line entry star distance = line (decimal entry ∷ decimal star ∷ decimal distance ∷ [])

unfoldable pub answer_lines : List ℕ → List ℕ → List ℕ → ℕ → List ℕ
answer_lines stars entries distances n = cat (λ i. answer_line (get_or entries i 0) (get_or stars (get_or entries i 0) 0) (get_or distances i 0)) n

-- the answer of a search, and how many answers it lists
abbrev pub answers_of : Result Report Refusal → ℕ
answers_of (Ok report) = report.answers
answers_of (Err why) = 0

abbrev pub found_lines : List ℕ → ℕ → Result Report Refusal → List ℕ → List ℕ → List ℕ → List ℕ
found_lines word number (Ok report) stars entries distances =
    counts_line word number report ++ answer_lines stars entries distances report.answers
found_lines word number (Err why) _ entries distances = refused_line number why

-- `match` star distance; `unsure` star star distance distance; `none`
abbrev pub verdict_line : ℕ → Verdict → List ℕ
verdict_line number verdict.None = line (decimal number ∷ none ∷ [])
verdict_line number (verdict.Unsure star other distance farther) =
    line (decimal number ∷ unsure ∷ decimal star ∷ decimal other ∷ decimal distance ∷ decimal farther ∷ [])
verdict_line number (verdict.Match star distance) = line (decimal number ∷ match ∷ decimal star ∷ decimal distance ∷ [])

abbrev pub judged_line : ℕ → Result VerdictReport Refusal → List ℕ
judged_line number (Ok report) = verdict_line number report.verdict
judged_line number (Err why) = refused_line number why

-- `code` and 16 lower-case hex digits, highest first
abbrev pub sky_line : ℕ → Result ℕ Refusal → List ℕ
sky_line number (Ok c) = line (decimal number ∷ code ∷ hex 16 c ∷ [])
sky_line number (Err why) = refused_line number why
