-- Each statement determines how a call ends: its result, and what stands behind each `&mut`. Assumes nothing.
use Rattle.theory.specs.Statements.{Determined}
use Rattle.theory.proofs.Statements.{whole, result, kept}
use Rattle.scope.specs.Calls.{BuildEnd}
use Rattle.tables.specs.contracts.build as build
use Rattle.tables.proofs.build.Reads as build_reads
use Rattle.tables.specs.contracts.check as check
use Rattle.tables.proofs.check.Reads as check_reads

pub build-Determined : Determined build.ended build_reads.Post
build-Determined κs a x y = whole (λ (e : BuildEnd). (e.answer, kept 3 (e.starts, (e.ids, tt))))

pub check-Determined : Determined check.ended check_reads.Post
check-Determined κs a x y = result
