-- Each statement determines its result. Assumes nothing.
use Rattle.theory.specs.Statements.{Determined}
use Rattle.theory.proofs.Statements.{result}
use Rattle.walk.specs.contracts.question.Question.of as of
use Rattle.walk.proofs.question.Question.of.Reads as of_reads
use Rattle.walk.specs.contracts.Standing.distance as distance
use Rattle.walk.proofs.Standing.distance.Reads as distance_reads
use Rattle.walk.specs.contracts.Standing.entry as entry
use Rattle.walk.proofs.Standing.entry.Reads as entry_reads

pub of-Determined : Determined of.ended of_reads.Post
of-Determined κs a x y = result

pub distance-Determined : Determined distance.ended distance_reads.Post
distance-Determined κs a x y = result

pub entry-Determined : Determined entry.ended entry_reads.Post
entry-Determined κs a x y = result
