-- What a search that lists entries leaves, by what it seeks. Assumes nothing.
use Rattle.scope.specs.Calls.{Asked, SearchEnd, nearest_end, within_end}
use Rattle.search.specs.declared.Sought.{Sought}
use Rattle.search.specs.declared.Sought.TheVariants.{Nearest, Within}

-- nearest k; within r
abbrev pub sought_end : Sought → Asked → SearchEnd
sought_end (Nearest k) c = nearest_end c k
sought_end (Within r) c = within_end c r
