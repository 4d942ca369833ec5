-- Tables that the builder wrote, or the check passed, are sound; what else a call that refusals 1 to 5 do not fit is known to be. Assumes nothing.
use Rattle.std.specs.Prelude.{Result, Ok, Err}
use mathlib.Core.Path.{◌≡◌, refl, sym, ap, ◌∙◌}
use mathlib.Core.Bool.{Bool, true}
use mathlib.Core.List.{List, [], ◌∷◌, ◌++◌}
use Prim.Native.Nat.{ℕ}
use native.Mathlib.Nat.{eq_of_mul-eq-mul_right}
use native.Mathlib.Omega.{arith}
use lib.ListN.{length}
use Rattle.theory.specs.Lists.{over}
use Rattle.theory.proofs.Tests.{or-false_left}
use Rattle.theory.proofs.Lists.{any_append}
use Rattle.scope.specs.declared.Refusal.{Refusal}
use Rattle.scope.specs.Shape.{listed}
use Rattle.scope.specs.Tables.{Index, index, n, substring_of, built_starts, built_ids, sound}
use Rattle.scope.specs.Walk.{Question}
use Rattle.scope.specs.Search.{K}
use Rattle.scope.specs.Refusals.{Rows, one_to_three, wrong_query, wrong_mask, above, few_marks, few_places}
use Rattle.scope.specs.Calls.{Asked, room, handed, BuildEnd, build_end, check_answer}
use Rattle.scope.proofs.Shapes.{facts}
use Rattle.scope.proofs.Rows.{unless-none, all-clear, Fits, fits}
use Rattle.scope.proofs.Ends.{build_fits, build_done}
use Rattle.scope.proofs.Bucketing.{built-sound}
use Rattle.demands.specs.Trust.{NoneFits, Trusted, WithinCall, NearestCall, VerdictCall}

-- star numbers play no part: two catalogues of the same codes have as many entries
module _ (x : Index) (stars starts ids : List ℕ) where
  as_many : Fits x → Fits (index x.shape stars x.codes starts ids) → length stars ≡ n x
  as_many a b =
      eq_of_mul-eq-mul_right x.shape.w (facts x.shape a.shape).some_words (length stars) (n x) (sym b.whole ∙ a.whole)

  sound-stars : length stars ≡ n x → starts ≡ x.starts → ids ≡ x.ids → sound (index x.shape stars x.codes starts ids) ≡ sound x
  unfolding sound built_starts built_ids substring_of
  sound-stars e f g = rw (e, f, g)

-- ---- the check, and the builder

check_yes : (y : Index) → check_answer y ≡ Ok true → NoneFits (one_to_three y) × (sound y ≡ true)
unfolding check_answer
check_yes y e =
    let none = all-clear Err (Ok (sound y)) (λ f e. let z : ◌≡◌ {A = ℕ} 0 1 = cc in omega arith) (one_to_three y) e in
    let said : ◌≡◌ {A = Result Bool Refusal} (Ok (sound y)) (Ok true) = sym (unless-none (one_to_three y) Err (Ok (sound y)) none) ∙ e in
    (none, cc)

pub trusted_sound : (x : Index) → NoneFits (one_to_three x) → Trusted x → sound x ≡ true
unfolding build_end
trusted_sound x h (Trusted.written stars starts ids done s i) =
    let y = index x.shape stars x.codes starts ids in
    let end = build_done y done in
    let e = as_many x stars starts ids (fits x h) (build_fits y done) in
    sym (sound-stars x stars (over (built_starts y) starts) (over (built_ids y) ids) e (sym (s ∙ ap (λ (b : BuildEnd). b.starts) end)) (sym (i ∙ ap (λ (b : BuildEnd). b.ids) end))) ∙ built-sound y
trusted_sound x h (Trusted.passed stars said) =
    let (none, good) = check_yes (index x.shape stars x.codes x.starts x.ids) said in
    let e = as_many x stars x.starts x.ids (fits x h) (fits _ none) in
    sym (sound-stars x stars x.starts x.ids e refl refl) ∙ good

-- what a search that refusals 1 to 5 do not fit goes by
pub record Ready (x : Index) : Type 0 where
  pub shape : listed x.shape ≡ true
  pub good : sound x ≡ true

ready : (ask : Question) (limits marks : List ℕ) (more : Rows) → NoneFits (handed ask limits marks ++ more) → Trusted ask.index → Ready ask.index
ready ask limits marks more h trusted =
    let x = ask.index in
    let rest = wrong_query x.shape ask.query ++ wrong_mask x.shape ask.mask ++ above x.shape limits ++ few_marks x marks ++ more in
    let three : NoneFits (one_to_three x) = or-false_left _ _ (sym (any_append (λ (row : Bool × Refusal). row.0) (one_to_three x) rest) ∙ h) in
    record { shape = (fits x three).shape; good = trusted_sound x three trusted }

pub within_ready : (c : Asked) (r : ℕ) → WithinCall c r → Ready c.question.index
within_ready c r such = ready c.question (r ∷ []) c.marks [] such.taken such.trusted

pub nearest_ready : (c : Asked) (k : ℕ) → NearestCall c k → Ready c.question.index
nearest_ready c k such = ready c.question [] c.marks (few_places (K c.question.index k) (room c)) such.taken such.trusted

pub verdict_ready : (ask : Question) (marks : List ℕ) (t g : ℕ) → VerdictCall ask marks t g → Ready ask.index
verdict_ready ask marks t g such = ready ask (t ∷ g ∷ []) marks [] such.taken such.trusted
