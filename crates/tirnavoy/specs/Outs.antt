-- What an exported function returns, and then its outs in the order of its parameters, from the number and values of its answer (`of_built` to `of_blackboard`):
-- the number, 0 where nothing is refused, and each value in its out; an out is 0 where it has no meaning. Assumes nothing.
use Rattle.std.specs.Prelude.{cond, List, [], ◌∷◌, ℕ, eqb, get_or}
use Rattle.scope.specs.Refusals.{of_built, of_found, of_judged}
use Rattle.scope.specs.Calls.{BuildEnd, SearchEnd, VerdictEnd}

-- value k where nothing is refused, and value k returned with a refusal
abbrev pub given : ℕ × List ℕ → ℕ → ℕ
given a k = cond (eqb a.0 0) (get_or a.1 k 0) 0

abbrev pub returned : ℕ × List ℕ → ℕ → ℕ
returned a k = cond (eqb a.0 0) 0 (get_or a.1 k 0)

-- sound; buckets
abbrev pub one_out : ℕ × List ℕ → List ℕ
one_out a = a.0 ∷ given a 0 ∷ []

-- code; place, returned with 9 and 10
abbrev pub sky_outs : ℕ × List ℕ → List ℕ
sky_outs a = a.0 ∷ given a 0 ∷ returned a 0 ∷ []

-- answers, where T stands that is returned with 6; opened, tested; table and bucket, returned with 7
abbrev pub search_outs : ℕ × List ℕ → List ℕ
search_outs a =
    let six = eqb a.0 6 in
    a.0 ∷ cond six (returned a 0) (given a 0) ∷ given a 1 ∷ given a 2 ∷ cond six 0 (returned a 0) ∷ returned a 1 ∷ []

-- of a verdict: kind, star, other star, distance, farther distance
abbrev pub spoken : ℕ × List ℕ → List ℕ
spoken v = v.0 ∷ get_or v.1 0 0 ∷ get_or v.1 2 0 ∷ get_or v.1 1 0 ∷ get_or v.1 3 0 ∷ []

-- the same of an answer, where opened and tested come before kind and values; then those two; table and bucket, returned with 7
abbrev pub verdict_outs : ℕ × List ℕ → List ℕ
verdict_outs a =
    a.0 ∷ given a 2 ∷ given a 3 ∷ given a 5 ∷ given a 4 ∷ given a 6 ∷ given a 0 ∷ given a 1 ∷ returned a 0 ∷ returned a 1 ∷ []

-- the answer's outs, and the lists at the end
abbrev pub built : BuildEnd → ℕ × List ℕ × List ℕ
built e = ((of_built e.answer).0, e.starts, e.ids)

abbrev pub searched : SearchEnd → List ℕ × List ℕ × List ℕ × List ℕ
searched e = (search_outs (of_found e.answer), e.marks, e.entries, e.distances)

abbrev pub told : VerdictEnd → List ℕ × List ℕ
told e = (verdict_outs (of_judged e.answer), e.marks)
