-- What builder and check are to one another, and to the searches: the promises on tables. Assumes nothing.
use Rattle.std.specs.Prelude.{⊤, Result, Ok, Err}
use Rattle.scope.specs.declared.Refusal.{Refusal}
use mathlib.Core.Path.{◌≡◌, sym, ap, ◌∙◌}
use mathlib.Core.Logic.{⊎_elim}
use mathlib.Core.Bool.{Bool, true, false}
use Prim.Native.Nat.{ℕ, ◌*◌}
use native.Mathlib.Omega.{arith}
use lib.ListN.{length}
use Rattle.theory.proofs.Tests.{either}
use Rattle.theory.proofs.Lists.{length_over}
use Rattle.scope.specs.Shape.{m, starts_before}
use Rattle.scope.specs.Tables.{Index, index, n, built_starts, built_ids, sound}
use Rattle.scope.specs.Refusals.{one_to_three}
use Rattle.scope.specs.Calls.{build_answer, build_end, check_answer}
use Rattle.scope.proofs.Rows.{unless-map, Fits, unrefused}
use Rattle.scope.proofs.Ends.{build_fits, build_done}
use Rattle.scope.proofs.Shapes.{facts}
use Rattle.scope.proofs.Bucketing.{rebuilt, built-sound, starts_before_lem, ids_before}

-- ---- check says yes exactly for sound tables, where nothing is refused; builder and check refuse the same calls

abbrev refuses : Result Bool Refusal → Result ⊤ Refusal
refuses (Ok sound) = Ok tt
refuses (Err f) = Err f

pub same_refusals : (x : Index) → refuses (check_answer x) ≡ build_answer x
unfolding check_answer build_answer
same_refusals x = unless-map refuses (one_to_three x) Err (Ok (sound x))

answer_is : (x : Index) → build_answer x ≡ Ok tt → check_answer x ≡ Ok (sound x)
unfolding check_answer
answer_is x b = unrefused x (build_fits x b) Err (Ok (sound x))

pub sound_yes : (x : Index) → build_answer x ≡ Ok tt → sound x ≡ true → check_answer x ≡ Ok true
sound_yes x b s = answer_is x b ∙ ap Ok s

pub unsound_no : (x : Index) → build_answer x ≡ Ok tt → sound x ≡ false → check_answer x ≡ Ok false
unsound_no x b s = answer_is x b ∙ ap Ok s

pub yes_sound : (x : Index) → check_answer x ≡ Ok true → (build_answer x ≡ Ok tt) × (sound x ≡ true)
yes_sound x e =
    let b : build_answer x ≡ (Ok tt) = sym (same_refusals x) ∙ ap refuses e in
    (b, ⊎_elim (λ s. s) (λ s. let no = unsound_no x b s in let z : ◌≡◌ {A = ℕ} 0 1 = cc in absurd (omega arith)) (either (sound x)))

-- ---- what build writes, check passes

abbrev pub after_build : Index → Index
after_build x = index x.shape x.stars x.codes (build_end x).starts (build_end x).ids

after_is : (x : Index) → build_answer x ≡ Ok tt → rebuilt x ≡ after_build x
after_is x b =
    let e = sym (build_done x b) in
    (λ i. index x.shape x.stars x.codes (e i).starts (e i).ids)

pub after_sound : (x : Index) → build_answer x ≡ Ok tt → sound (after_build x) ≡ true
after_sound x b = ap sound (sym (after_is x b)) ∙ built-sound x

-- the builder's lists keep their lengths, so nothing is refused after it either
still_fits : (x : Index) → Fits x → Fits (rebuilt x)
unfolding built_starts built_ids
still_fits x f =
    let s : length (built_starts x) ≡ starts_before x.shape (m x.shape) = starts_before_lem x (facts x.shape f.shape) (m x.shape) in
    let d : length (built_ids x) ≡ m x.shape * n x = ids_before x (m x.shape) in
    record {
      shape = f.shape;
      few = f.few;
      whole = f.whole;
      starts = omega (arith, f.starts, length_over (built_starts x) x.starts (omega (arith, s, f.starts)));
      ids = omega (arith, f.ids, length_over (built_ids x) x.ids (omega (arith, d, f.ids)));
    }

pub after_done : (x : Index) → build_answer x ≡ Ok tt → build_answer (after_build x) ≡ Ok tt
unfolding build_answer
after_done x b = ap build_answer (sym (after_is x b)) ∙ unrefused (rebuilt x) (still_fits x (build_fits x b)) Err (Ok tt)

pub build-check : (x : Index) → build_answer x ≡ Ok tt → check_answer (after_build x) ≡ Ok true
build-check x b = sound_yes (after_build x) (after_done x b) (after_sound x b)
