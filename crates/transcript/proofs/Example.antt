-- By computing: 01's session with the head, A's entries, nearest 2, verdict t = 4 g = 3 and within 1 prints its seven lines; a lone head and no input at all. Assumes nothing.
use mathlib.Core.Path.{◌≡◌, refl}
use mathlib.Core.List.{List, [], ◌∷◌, ◌++◌}
use Prim.Native.Nat.{ℕ}
use lib.Count.{ones}
use Rattle.theory.specs.Lists.{sum, cat, any, first_from, ranked}
use Rattle.scope.specs.Codes.{bit, distance_under, substring, code_of}
use Rattle.scope.specs.Shape.{listed, first_bit, len, starts_before}
use Rattle.scope.specs.Tables.{substring_of, built_starts, built_ids, start, id_at, bad_id, bad}
use Rattle.scope.specs.Walk.{opens, opened, tested, near}
use Rattle.scope.specs.Search.{nearest_steps, nearest, within_steps, within}
use Rattle.scope.specs.Verdict.{two_stars, first_other, rivals, verdict_steps, nearest_rivals, verdict_of}
use Rattle.scope.specs.Refusals.{unless, lent}
use Rattle.scope.specs.Calls.{report, build_answer, build_end, nearest_answer, nearest_end, within_answer, within_end, search_end, verdict_report, verdict_answer, verdict_end}
use Rattle.reading.specs.Bytes.{number_at}
use Rattle.reading.specs.Records.{wanted, rest_of, meaning_of, record_of}
use Rattle.std.specs.Fmt.{digits}
use Rattle.lines.specs.Text.{hex}
use Rattle.lines.specs.Lines.{answer_lines}
use Rattle.transcript.specs.Questions.{reply}
use Rattle.transcript.specs.Transcript.{built, printed, transcript}

-- ---- the input

-- w = 1, s = 8
abbrev head : List ℕ
head = 2 ∷ 0 ∷ 1 ∷ 0 ∷ 1 ∷ 8 ∷ []

-- star 10, code 0
abbrev entry0 : List ℕ
entry0 = 12 ∷ 0 ∷ 2 ∷ 0 ∷ 10 ∷ 0 ∷ 0 ∷ 0 ∷ 0 ∷ 0 ∷ 0 ∷ 0 ∷ 0 ∷ 0 ∷ 0 ∷ 0 ∷ []

-- star 10, code 1
abbrev entry1 : List ℕ
entry1 = 12 ∷ 0 ∷ 2 ∷ 0 ∷ 10 ∷ 0 ∷ 0 ∷ 0 ∷ 1 ∷ 0 ∷ 0 ∷ 0 ∷ 0 ∷ 0 ∷ 0 ∷ 0 ∷ []

-- star 20, code 0xFF
abbrev entry2 : List ℕ
entry2 = 12 ∷ 0 ∷ 2 ∷ 0 ∷ 20 ∷ 0 ∷ 0 ∷ 0 ∷ 255 ∷ 0 ∷ 0 ∷ 0 ∷ 0 ∷ 0 ∷ 0 ∷ 0 ∷ []

-- star 30, code all 64 ones
abbrev entry3 : List ℕ
entry3 = 12 ∷ 0 ∷ 2 ∷ 0 ∷ 30 ∷ 0 ∷ 0 ∷ 0 ∷ 255 ∷ 255 ∷ 255 ∷ 255 ∷ 255 ∷ 255 ∷ 255 ∷ 255 ∷ []

-- star 40, code 0x0101010101010101
abbrev entry4 : List ℕ
entry4 = 12 ∷ 0 ∷ 2 ∷ 0 ∷ 40 ∷ 0 ∷ 0 ∷ 0 ∷ 1 ∷ 1 ∷ 1 ∷ 1 ∷ 1 ∷ 1 ∷ 1 ∷ 1 ∷ []

-- nearest, k = 2, code 3
abbrev near2 : List ℕ
near2 = 10 ∷ 0 ∷ 3 ∷ 0 ∷ 2 ∷ 0 ∷ 3 ∷ 0 ∷ 0 ∷ 0 ∷ 0 ∷ 0 ∷ 0 ∷ 0 ∷ []

-- verdict, t = 4, g = 3, code 3
abbrev verdict43 : List ℕ
verdict43 = 12 ∷ 0 ∷ 5 ∷ 0 ∷ 4 ∷ 0 ∷ 3 ∷ 0 ∷ 3 ∷ 0 ∷ 0 ∷ 0 ∷ 0 ∷ 0 ∷ 0 ∷ 0 ∷ []

-- within, r = 1, code 3
abbrev within1 : List ℕ
within1 = 10 ∷ 0 ∷ 4 ∷ 0 ∷ 1 ∷ 0 ∷ 3 ∷ 0 ∷ 0 ∷ 0 ∷ 0 ∷ 0 ∷ 0 ∷ 0 ∷ []

abbrev input : List ℕ
input = head ++ entry0 ++ entry1 ++ entry2 ++ entry3 ++ entry4 ++ near2 ++ verdict43 ++ within1

-- ---- the lines

-- stars 5
abbrev stars5 : List ℕ
stars5 = 115 ∷ 116 ∷ 97 ∷ 114 ∷ 115 ∷ 32 ∷ 53 ∷ 10 ∷ []

-- 7 near 2 3 3
abbrev seven : List ℕ
seven = 55 ∷ 32 ∷ 110 ∷ 101 ∷ 97 ∷ 114 ∷ 32 ∷ 50 ∷ 32 ∷ 51 ∷ 32 ∷ 51 ∷ 10 ∷ []

-- 1 10 1
abbrev first : List ℕ
first = 49 ∷ 32 ∷ 49 ∷ 48 ∷ 32 ∷ 49 ∷ 10 ∷ []

-- 0 10 2
abbrev second : List ℕ
second = 48 ∷ 32 ∷ 49 ∷ 48 ∷ 32 ∷ 50 ∷ 10 ∷ []

-- 8 match 10 1
abbrev eight : List ℕ
eight = 56 ∷ 32 ∷ 109 ∷ 97 ∷ 116 ∷ 99 ∷ 104 ∷ 32 ∷ 49 ∷ 48 ∷ 32 ∷ 49 ∷ 10 ∷ []

-- 9 within 1 2 3
abbrev nine : List ℕ
nine = 57 ∷ 32 ∷ 119 ∷ 105 ∷ 116 ∷ 104 ∷ 105 ∷ 110 ∷ 32 ∷ 49 ∷ 32 ∷ 50 ∷ 32 ∷ 51 ∷ 10 ∷ []

whole : transcript input ≡ stars5 ++ seven ++ first ++ second ++ eight ++ nine ++ first
unfolding transcript printed built reply record_of meaning_of rest_of wanted number_at digits hex answer_lines build_end build_answer built_starts built_ids nearest_end within_end search_end verdict_end lent nearest_answer within_answer verdict_answer verdict_report report unless nearest_steps nearest within_steps within ranked two_stars first_other rivals verdict_steps nearest_rivals verdict_of first_from near tested opened opens bad bad_id start id_at substring_of listed starts_before first_bit len substring distance_under code_of bit sum cat any ones
whole = refl

-- ---- the end of the input

-- stars 0
abbrev stars0 : List ℕ
stars0 = 115 ∷ 116 ∷ 97 ∷ 114 ∷ 115 ∷ 32 ∷ 48 ∷ 10 ∷ []

-- after the head alone, and before it
lone_head : transcript head ≡ stars0
unfolding transcript printed record_of meaning_of rest_of wanted number_at digits
lone_head = refl

empty-input : transcript [] ≡ []
unfolding transcript printed record_of wanted number_at
empty-input = refl
