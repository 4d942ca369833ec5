-- Each statement determines how a call ends: its result, and what stands behind each `&mut`. Assumes nothing.
use mathlib.Core.List.{List}
use Prim.Native.Nat.{ℕ}
use denote.RattleType.{RattleType}
use denote.Param.Laws.{Laws, IsCopy}
use mir.Syntax.{Dict}
use Rattle.std.specs.declared.clone.Clone as Clone
use Rattle.codes.specs.declared.Zero as Zero
use Rattle.theory.specs.Statements.{Determined}
use Rattle.theory.proofs.Statements.{whole, result, kept}
use Rattle.codes.specs.contracts.Codes.distance as distance
use Rattle.codes.proofs.Codes.distance.Reads as distance_reads
use Rattle.codes.specs.contracts.Codes.entry_substring as entry_substring
use Rattle.codes.proofs.Codes.entry_substring.Reads as entry_substring_reads
use Rattle.codes.specs.contracts.substring as substring
use Rattle.codes.proofs.substring.Reads as substring_reads
use Rattle.codes.specs.contracts.marked as marked
use Rattle.codes.proofs.marked.Reads as marked_reads
use Rattle.codes.specs.contracts.mark as mark
use Rattle.codes.proofs.mark.Reads as mark_reads
use Rattle.codes.specs.contracts.clear as clear
use Rattle.codes.proofs.clear.Reads as clear_reads

pub distance-Determined : Determined distance.ended distance_reads.Post
distance-Determined κs a x y = result

pub substring-Determined : Determined substring.ended substring_reads.Post
substring-Determined κs a x y = result

pub entry_substring-Determined : Determined entry_substring.ended entry_substring_reads.Post
entry_substring-Determined κs a x y = result

pub marked-Determined : Determined marked.ended marked_reads.Post
marked-Determined κs a x y = result

pub mark-Determined : Determined mark.ended mark_reads.Post
mark-Determined κs a x y = whole (λ (l : List ℕ). (tt, (l, kept 1 tt)))

-- at each number type
pub clear-Determined : (T : RattleType) (laws : Laws T) (copies : IsCopy T) (Z : Zero.Ghosts T.Denot) (z : Dict) (C : Clone.Ghosts T.Denot) (c : Dict)
    → Determined (clear.ended T Z z C c) (clear_reads.Post T laws copies Z z C c)
clear-Determined T laws copies Z z C c κs a x y = whole (λ (l : List T.Denot). (tt, (l, kept 1 tt)))
