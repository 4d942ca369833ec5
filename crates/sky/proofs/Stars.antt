-- What stands after the first k stars: nothing refused, and their code. The loop over the stars goes by this. Assumes nothing.
use Rattle.std.specs.Prelude.{Result, Ok, Err}
use mathlib.Core.Path.{◌≡◌, refl, sym, ap, ◌∙◌}
use mathlib.Core.Bool.{true}
use mathlib.Core.List.{List, ◌++◌}
use Prim.Native.Nat.{ℕ, suc, ◌^◌, ◌≤◌, ◌<◌}
use lib.Bits.{bit_or}
use lib.Dec.{ltb}
use lib.ListN.{length}
use lib.Ieee.{Float}
use borrow.Author.Tests.{eq-eqb, ne_eqb, le-ltb}
use Rattle.theory.specs.Lists.{cat}
use Rattle.theory.proofs.Lists.{cat-suc, cat_front}
use Rattle.scope.specs.declared.Refusal.{Refusal}
use Rattle.scope.specs.declared.Refusal.TheVariants.{Offsets}
use Rattle.scope.specs.declared.Unit.{Unit}
use Rattle.scope.specs.Sky.{angle_at, cell_at, code_from}
use Rattle.scope.specs.Refusals.{Rows, bad_angle, unless}
use Rattle.scope.specs.Calls.{sky_answer}
use Rattle.scope.proofs.Rows.{unless-append}
use Rattle.sky.specs.Place.{star_of}
use Rattle.sky.proofs.Places.{told, at_is}

module _ (u : Unit) (across up : List Float) where
  -- star k's place, and the rows that judge it
  abbrev pub star_at : ℕ → Result ℕ Refusal
  star_at k = star_of k (angle_at u across k) (angle_at u up k)

  abbrev pub rows : ℕ → Rows
  rows k = bad_angle k (angle_at u across k) ++ bad_angle k (angle_at u up k)

  -- lists that 8 does not refuse
  pub record Fitting : Type 0 where
    pub equal : length across ≡ length up
    pub few : length across ≤ 4096

  pub record Passed (k code : ℕ) : Type 0 where
    pub none : (answer : Result ℕ Refusal) → unless (cat rows k) Err answer ≡ answer
    pub made : code ≡ code_from (cell_at u across up) k

  -- ---- before the loop

  pub unequal : (length across ≡ length up → ⊥) → Err Offsets ≡ sky_answer u across up
  unfolding sky_answer unless
  unequal h = rw (ne_eqb _ _ h)

  pub too_many_lem : length across ≡ length up → ltb 4096 (length across) ≡ true → Err Offsets ≡ sky_answer u across up
  unfolding sky_answer unless
  too_many_lem e h = rw (eq-eqb _ _ e, h)

  judged : Fitting → sky_answer u across up ≡ unless (cat rows (length across)) Err (Ok (code_from (cell_at u across up) (length across)))
  unfolding sky_answer unless
  judged f = rw (eq-eqb _ _ f.equal, le-ltb _ _ f.few)

  pub none_yet : Passed 0 0
  unfolding unless cat code_from
  none_yet = record { none = λ answer. refl; made = refl }

  -- ---- star k

  module _ {k code : ℕ} (p : Passed k code) where
    pub one_more : (j : ℕ) → star_at k ≡ Ok j → Passed (suc k) (bit_or code (2 ^ j))
    unfolding star_of cat code_from cell_at
    one_more j e =
        let past : (answer : Result ℕ Refusal) → unless (rows k) Err answer ≡ answer = λ answer. told (rows k) (cell_at u across up k) Err answer ∙ rw e in
        record {
          none = λ answer. unless-append (cat rows k) (rows k) Err answer ∙ p.none _ ∙ past answer;
          made = rw (p.made, at_is (rows k) (cell_at u across up k) j e);
        }

    pub refused_at : Fitting → k < length across → (why : Refusal) → star_at k ≡ Err why → Err why ≡ sky_answer u across up
    unfolding star_of cell_at
    refused_at f h why e =
        let t = cat_front rows (suc k) (length across) h in
        let code = Ok (code_from (cell_at u across up) (length across)) in
        sym
        (judged f ∙ ap (λ (l : Rows). unless l Err code) (t.1 ∙ ap (λ (l : Rows). l ++ t.0) (cat-suc rows k))
        ∙ unless-append (cat rows k ++ rows k) t.0 Err code ∙ unless-append (cat rows k) (rows k) Err _ ∙ p.none _
        ∙ told (rows k) (cell_at u across up k) Err _ ∙ rw e)

  -- ---- after the loop

  pub all_passed : Fitting → (k code : ℕ) → k ≡ length across → Passed k code → Ok code ≡ sky_answer u across up
  all_passed f k code e p =
      let q : Passed (length across) code = rw e at p in
      sym (judged f ∙ q.none _ ∙ ap Ok (sym q.made))
