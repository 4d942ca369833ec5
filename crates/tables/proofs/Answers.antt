-- What builder and check answer, from the early refusal that was found. Assumes nothing.
use Rattle.std.specs.Prelude.{Ok, Err}
use Rattle.scope.specs.declared.Refusal.{Refusal}
use mathlib.Core.Path.{◌≡◌, sym, ap, ◌∙◌}
use mathlib.Core.List.{List}
use Prim.Native.Nat.{ℕ}
use Rattle.theory.specs.Lists.{over}
use Rattle.scope.specs.Tables.{Index, built_starts, built_ids, sound}
use Rattle.scope.specs.Refusals.{unless, one_to_three}
use Rattle.scope.specs.Calls.{build_answer, check_answer, builds, build_end}
use Rattle.scope.proofs.Rows.{unless-none, passed, refuses_all}
use Rattle.scope.proofs.Ends.{build_done}

-- by what the early check answered: the index itself where refusals 1 to 3 do not fit, and otherwise the refusal that both pass on
module _ (x : Index) where
  pub accepted : {y : Index} → Ok y ≡ unless (one_to_three x) Err (Ok x) → build_answer x ≡ Ok tt
  unfolding build_answer
  accepted e = unless-none (one_to_three x) Err (Ok tt) (passed (one_to_three x) x e).0

  pub refuses_build : {f : Refusal} → Err f ≡ unless (one_to_three x) Err (Ok x) → build_answer x ≡ Err f
  unfolding build_answer
  refuses_build e = refuses_all (one_to_three x) x e (Ok tt)

  pub checked : {y : Index} → Ok y ≡ unless (one_to_three x) Err (Ok x) → check_answer x ≡ Ok (sound y)
  unfolding check_answer
  checked e = let (none, same) = passed (one_to_three x) x e in unless-none (one_to_three x) Err (Ok (sound x)) none ∙ ap (λ (z : Index). Ok (sound z)) (sym same)

  pub refuses_check : {f : Refusal} → Err f ≡ unless (one_to_three x) Err (Ok x) → check_answer x ≡ Err f
  unfolding check_answer
  refuses_check e = refuses_all (one_to_three x) x e (Ok (sound x))

-- both lists as the builder leaves them
pub end_done : (x : Index) (s d : List ℕ) → build_answer x ≡ Ok tt → s ≡ over (built_starts x) x.starts → d ≡ over (built_ids x) x.ids → builds (Ok tt) s d ≡ build_end x
end_done x s d e es ed = (λ i. builds (Ok tt) (es i) (ed i)) ∙ sym (build_done x e)
