-- Each statement determines how a call ends: its result, and what stands behind each `&mut`. Assumes nothing.
use Rattle.theory.specs.Statements.{Determined}
use Rattle.theory.proofs.Statements.{result}
use Rattle.sky.specs.contracts.code as code
use Rattle.sky.proofs.code.Reads as code_reads

pub code-Determined : Determined code.ended code_reads.Post
code-Determined κs a x y = result
