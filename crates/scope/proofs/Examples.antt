-- What holds the definitions besides 01's examples, by computing: on catalogue A with query 3, and for each shape. (01's own: P1 to P10 in crate `examples`, the rest in the programs.)
use mathlib.Core.Path.{◌≡◌, refl}
use mathlib.Core.Bool.{Bool, true, false}
use mathlib.Core.List.{List, [], ◌∷◌, map}
use Prim.Native.Nat.{ℕ, ◌-◌, ◌^◌}
use lib.Count.{ones}
use lib.Ieee.{Float, nan, inf, binary64, of_int, round, mul, lt, le}
use Rattle.theory.specs.Lists.{cat, sum, any, same, first_from, ranked}
use Rattle.scope.specs.declared.Shape.{Shape}
use Rattle.scope.specs.declared.Unit.TheVariants.{Degrees, Radians}
use Rattle.scope.specs.Codes.{bit, distance_under, substring, code_of}
use Rattle.scope.specs.Shape.{shape, q, listed, m, first_bit, len, starts_before}
use Rattle.scope.specs.Tables.{index, substring_of, built_starts, built_ids, sound, start, id_at, bucket, bad_id, bad}
use Rattle.scope.specs.Walk.{masked, distance_of, opens, opened, tested, near}
use Rattle.scope.specs.Search.{nearest_steps, nearest, within_steps, within}
use Rattle.scope.specs.Sky.{angle_of, given, finite, per_radian, degrees, edge, in_field, column, angle_at, cell_at, code_from}
use Rattle.scope.specs.Refusals.{unless, lent, of_judged, of_sky}
use Rattle.scope.specs.Calls.{report, nearest_answer, nearest_end, within_answer, within_end, search_end, verdict_answer, sky_answer}
use Rattle.scope.proofs.CatalogueA.{a, spoiled, ask, baffled, asked, shown}

-- ---- shapes: q; the first bits of the first, the second and the last substring and their lengths; and all starts

abbrev values : Shape → List ℕ
values sh = q sh ∷ first_bit sh 0 ∷ first_bit sh 1 ∷ first_bit sh (m sh - 1) ∷ len sh 0 ∷ len sh 1 ∷ len sh (m sh - 1) ∷ starts_before sh (m sh) ∷ []

shapes :
    map values (shape 1 16 ∷ shape 1 8 ∷ shape 1 4 ∷ shape 2 32 ∷ shape 2 16 ∷ shape 2 8 ∷ shape 4 64 ∷ shape 4 32 ∷ shape 4 16 ∷ [])
    ≡ (64 ∷ 0 ∷ 4 ∷ 60 ∷ 4 ∷ 4 ∷ 4 ∷ 272 ∷ []) ∷ (64 ∷ 0 ∷ 8 ∷ 56 ∷ 8 ∷ 8 ∷ 8 ∷ 2056 ∷ []) ∷ (64 ∷ 0 ∷ 16 ∷ 48 ∷ 16 ∷ 16 ∷ 16 ∷ 262148 ∷ [])
    ∷ (128 ∷ 0 ∷ 4 ∷ 124 ∷ 4 ∷ 4 ∷ 4 ∷ 544 ∷ []) ∷ (128 ∷ 0 ∷ 8 ∷ 120 ∷ 8 ∷ 8 ∷ 8 ∷ 4112 ∷ []) ∷ (128 ∷ 0 ∷ 16 ∷ 112 ∷ 16 ∷ 16 ∷ 16 ∷ 524296 ∷ [])
    ∷ (256 ∷ 0 ∷ 4 ∷ 252 ∷ 4 ∷ 4 ∷ 4 ∷ 1088 ∷ []) ∷ (256 ∷ 0 ∷ 8 ∷ 248 ∷ 8 ∷ 8 ∷ 8 ∷ 8224 ∷ []) ∷ (256 ∷ 0 ∷ 16 ∷ 240 ∷ 16 ∷ 16 ∷ 16 ∷ 1048592 ∷ []) ∷ []
unfolding first_bit len starts_before sum
shapes = refl

-- 128 bits in 11 tables: seven of 12 bits and four of 11; 64 in 5: four of 13 and one of 12; 256 in 17: one of 16 and sixteen of 15
unequal :
    map values (shape 2 11 ∷ shape 1 5 ∷ shape 4 17 ∷ [])
    ≡ (128 ∷ 0 ∷ 12 ∷ 117 ∷ 12 ∷ 12 ∷ 11 ∷ 36875 ∷ []) ∷ (64 ∷ 0 ∷ 13 ∷ 52 ∷ 13 ∷ 13 ∷ 12 ∷ 36869 ∷ []) ∷ (256 ∷ 0 ∷ 16 ∷ 241 ∷ 16 ∷ 15 ∷ 15 ∷ 589841 ∷ []) ∷ []
unfolding first_bit len starts_before sum
unequal = refl

listed-shapes :
    map listed (shape 1 4 ∷ shape 1 5 ∷ shape 1 16 ∷ shape 2 11 ∷ shape 4 16 ∷ shape 4 64 ∷ shape 1 3 ∷ shape 1 17 ∷ shape 2 7 ∷ shape 3 16 ∷ shape 0 0 ∷ shape 1 0 ∷ [])
    ≡ true ∷ true ∷ true ∷ true ∷ true ∷ true ∷ false ∷ false ∷ false ∷ false ∷ false ∷ false ∷ []
unfolding listed
listed-shapes = refl

-- ---- codes and tables

-- a substring of two words: bits 60 to 67
crossing : substring 60 8 (0xa000_0000_0000_0000 ∷ 0x5 ∷ []) ≡ 0x5a
unfolding substring sum bit
crossing = refl

-- A's tables are what the builder writes; a table whose bucket lists an entry twice is not
tables : (sound a ≡ true) × (sound spoiled ≡ false)
unfolding sound built_starts built_ids same cat first_bit len substring_of substring sum bit code_of
tables = (refl, refl)

buckets : bucket a 0 1 ∷ bucket a 0 2 ∷ bucket a 1 0 ∷ bucket a 7 255 ∷ [] ≡ (1 ∷ 4 ∷ []) ∷ [] ∷ (0 ∷ 1 ∷ 2 ∷ []) ∷ (3 ∷ []) ∷ []
unfolding start id_at starts_before len sum cat
buckets = refl

-- ---- the walk: what a step opens

step_8 : opens (ask a) 8 ≡ (0, 2) ∷ (0, 1) ∷ (0, 7) ∷ (0, 11) ∷ (0, 19) ∷ (0, 35) ∷ (0, 67) ∷ (0, 131) ∷ []
unfolding opens cat first_bit len substring sum bit ones
step_8 = refl

-- where the corners are hidden, step 0 opens what differs from the query in cells 0 and 7 alone, ascending by the whole exclusive-or; and the two entries of star 10 are at distance 1
baffled_step : (opens (baffled a) 0 ≡ (0, 3) ∷ (0, 2) ∷ (0, 131) ∷ (0, 130) ∷ []) × (map (distance_of (baffled a)) (0 ∷ 1 ∷ 2 ∷ 3 ∷ 4 ∷ []) ≡ 1 ∷ 1 ∷ 5 ∷ 59 ∷ 7 ∷ [])
unfolding opens cat first_bit len substring distance_under code_of sum bit ones
baffled_step = (refl, refl)

-- hidden bits do not come last: with the last of four bits hidden, step 16 opens what differs in one of the other three, ascending by all four
hidden_order : opens (masked (index (shape 1 16) [] [] [] []) (0 ∷ []) (7 ∷ [])) 16 ≡ (0, 1) ∷ (0, 2) ∷ (0, 4) ∷ (0, 9) ∷ (0, 10) ∷ (0, 12) ∷ []
unfolding opens cat first_bit len substring sum bit ones
hidden_order = refl

-- under a mask of two words, or of none
wrong_masks : map (λ mask. (of_judged (verdict_answer (masked a (3 ∷ []) mask) (7 ∷ []) 0 0)).0) ([] ∷ (1 ∷ 1 ∷ []) ∷ []) ≡ 4 ∷ 4 ∷ []
unfolding verdict_answer unless listed starts_before len sum any
wrong_masks = refl

-- ---- the searches: number and values, then the lists at the end

-- 6 returns T and leaves the first P answers: within 2 with one place
six : shown (within_end (asked a 1 2) 2) ≡ (6, 2 ∷ [], 0 ∷ 7 ∷ [], 1 ∷ [], 1 ∷ 9 ∷ [])
unfolding within_end search_end lent within_answer report unless within_steps within ranked tested opened opens bad bad_id start id_at substring_of listed starts_before first_bit len substring distance_under code_of bit sum cat any ones
six = refl

-- 7 names table 1, bucket 0, and leaves zeros; where the walk does not meet it, it does not matter; 5 comes before it
bads :
    shown (nearest_end (asked spoiled 3 3) 2) ∷ shown (within_end (asked spoiled 2 2) 0) ∷ shown (nearest_end (asked spoiled 1 3) 2) ∷ []
    ≡ (7, 1 ∷ 0 ∷ [], 0 ∷ 7 ∷ [], 0 ∷ 0 ∷ 9 ∷ [], 0 ∷ 0 ∷ 9 ∷ [])
    ∷ (0, 0 ∷ 1 ∷ 0 ∷ [], 0 ∷ 7 ∷ [], 0 ∷ 0 ∷ [], 0 ∷ 0 ∷ [])
    ∷ (5, [], 7 ∷ 7 ∷ [], 9 ∷ [], 9 ∷ 9 ∷ 9 ∷ []) ∷ []
unfolding nearest_end within_end search_end lent nearest_answer within_answer report unless nearest_steps nearest within_steps within ranked first_from near tested opened opens bad bad_id start id_at substring_of listed starts_before first_bit len substring distance_under code_of bit sum cat any ones
bads = refl

-- ---- the sky: 8; 9 with its place; across before up, so 10 before the 9 of up; 9 before 10 of one angle; an overflow is 10; cells; no stars

abbrev deg : Bool → ℕ → Float
deg sign k = round binary64 sign k 1

skies :
    map of_sky
    (sky_answer Degrees (deg false 0 ∷ []) [] ∷ sky_answer Degrees (deg false 0 ∷ deg false 1 ∷ []) (deg false 0 ∷ nan ∷ [])
    ∷ sky_answer Degrees (deg false 9 ∷ []) (nan ∷ []) ∷ sky_answer Radians (inf true ∷ []) (deg false 0 ∷ [])
    ∷ sky_answer Radians (deg false (10 ^ 308) ∷ []) (deg false 0 ∷ [])
    ∷ sky_answer Degrees (deg true 4 ∷ deg false 3 ∷ deg false 3 ∷ []) (deg true 4 ∷ deg true 3 ∷ deg true 3 ∷ []) ∷ sky_answer Radians [] [] ∷ [])
    ≡ (8, []) ∷ (9, 1 ∷ []) ∷ (10, 0 ∷ []) ∷ (9, 0 ∷ []) ∷ (10, 0 ∷ []) ∷ (0, 32769 ∷ []) ∷ (0, 0 ∷ []) ∷ []
unfolding sky_answer unless cat angle_of given finite per_radian degrees edge in_field column angle_at cell_at code_from first_from of_int round mul lt le
skies = refl
