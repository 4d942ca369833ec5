-- Each statement determines how a call ends: its result, and what stands behind each `&mut`. Assumes nothing.
use mathlib.Core.Path.{◌≡◌}
use mathlib.Core.List.{List}
use Prim.Native.Nat.{ℕ}
use Rattle.theory.specs.Statements.{Determined}
use Rattle.theory.proofs.Statements.{same, kept}
use Rattle.lines.specs.Wrote.{Put}
use Rattle.lines.specs.contracts.put_stars as put_stars
use Rattle.lines.proofs.put_stars.Reads as put_stars_reads
use Rattle.lines.specs.contracts.put_bad as put_bad
use Rattle.lines.proofs.put_bad.Reads as put_bad_reads
use Rattle.lines.specs.contracts.put_found as put_found
use Rattle.lines.proofs.put_found.Reads as put_found_reads
use Rattle.lines.specs.contracts.put_judged as put_judged
use Rattle.lines.proofs.put_judged.Reads as put_judged_reads
use Rattle.lines.specs.contracts.put_sky as put_sky
use Rattle.lines.proofs.put_sky.Reads as put_sky_reads

-- a text put into a list: the place after it, and the list
puts : {most at r r' : ℕ} {l text l' l'' : List ℕ} → Put most l at text l' r → Put most l at text l'' r' → ◌≡◌ {A = ℕ × List ℕ} (r, l') (r', l'')
puts p q = λ i. (same p.wrote.place q.wrote.place i, same p.wrote.list q.wrote.list i)

pub put_stars-Determined : Determined put_stars.ended put_stars_reads.Post
put_stars-Determined κs a x y p q = λ i. ((puts p q i).0, ((puts p q i).1, kept 2 tt))

pub put_bad-Determined : Determined put_bad.ended put_bad_reads.Post
put_bad-Determined κs a x y p q = λ i. ((puts p q i).0, ((puts p q i).1, kept 2 tt))

pub put_found-Determined : Determined put_found.ended put_found_reads.Post
put_found-Determined κs a x y p q = λ i. ((puts p q i).0, ((puts p q i).1, kept 7 tt))

pub put_judged-Determined : Determined put_judged.ended put_judged_reads.Post
put_judged-Determined κs a x y p q = λ i. ((puts p q i).0, ((puts p q i).1, kept 3 tt))

pub put_sky-Determined : Determined put_sky.ended put_sky_reads.Post
put_sky-Determined κs a x y p q = λ i. ((puts p q i).0, ((puts p q i).1, kept 3 tt))
