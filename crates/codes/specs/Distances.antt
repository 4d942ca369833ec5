-- How far an entry of a code list is from a query under a mask, and what is said of a distance up to a limit. Assumes nothing.
use Rattle.std.specs.Prelude.{cond, List, Option, None, Some, ℕ, ◌*◌, leb}
use Rattle.scope.specs.Codes.{distance_under, code_of}

abbrev pub distance_from : (w : ℕ) (codes query mask : List ℕ) → ℕ → ℕ
distance_from w codes query mask i = distance_under mask (64 * w) (code_of w codes i) query

-- the distance d, where it is at most the limit; otherwise that it is over
unfoldable pub limited : ℕ → ℕ → Option ℕ
limited limit d = cond (leb d limit) (Some d) None
