-- What a head names is a listed shape, and a session's lists have room for its tables: its catalogue is never refused 1 to 3. Assumes nothing.
use Rattle.std.specs.Prelude.{Ok}
use mathlib.Core.Path.{◌≡◌, refl}
use mathlib.Core.Logic.{◌⊎◌, ⊎_elim}
use mathlib.Core.Bool.{true, ◌||◌}
use mathlib.Core.List.{List}
use Prim.Native.Nat.{ℕ, ◌*◌, ◌/◌, ◌≤◌}
use native.Mathlib.Nat.{mul-le-mul}
use native.Mathlib.Omega.{arith}
use lib.Dec.{eqb}
use lib.ListN.{length, replicate, length-replicate}
use borrow.Author.Tests.{eq-eqb, le-leb}
use Rattle.theory.specs.Lists.{cat}
use Rattle.theory.proofs.Tests.{or_left, or_right}
use Rattle.scope.specs.declared.Shape.{Shape}
use Rattle.scope.specs.Shape.{q, m, listed, starts_before}
use Rattle.scope.specs.Tables.{index}
use Rattle.scope.specs.Calls.{build_answer}
use Rattle.scope.proofs.Shapes.{facts, len-le, starts-le}
use Rattle.scope.proofs.Rows.{Fits, unrefused}

-- w is 1 or 2, and m from q/8 to q/4
pub record Headed (sh : Shape) : Type 0 where
  pub words : (sh.w ≡ 1) ⊎ (sh.w ≡ 2)
  pub least : 8 * sh.w ≤ sh.m
  pub most : sh.m ≤ 16 * sh.w

module _ (sh : Shape) (h : Headed sh) where
  two : sh.w ≤ 2
  two = ⊎_elim (λ (e : sh.w ≡ 1). omega arith) (λ (e : sh.w ≡ 2). omega arith) h.words

  pub headed-listed : listed sh ≡ true
  unfolding listed
  headed-listed =
      let w = sh.w in
      let one : (eqb w 1 || eqb w 2 || eqb w 4) ≡ true =
      ⊎_elim (λ e. or_left (eqb w 1 || eqb w 2) _ (or_left (eqb w 1) _ (eq-eqb w 1 e))) (λ e. or_left (eqb w 1 || eqb w 2) _ (or_right (eqb w 1) _ (eq-eqb w 2 e))) h.words in
      rw (one, le-leb (q sh / 16) (m sh) (omega (arith, h.least)), le-leb (m sh) (q sh / 4) (omega (arith, h.most)))

  pub starts-room : starts_before sh (m sh) ≤ 4112
  unfolding cat
  starts-room =
      let f = facts sh headed-listed in
      omega (arith, two, starts-le sh 8 refl (λ z. (f.some_bits z, len-le sh 8 f.some_tables (omega (arith, h.least)) z)) f.whole)

  -- so the builder writes the tables that every question is asked over
  pub builds : (stars codes : List ℕ) → length stars ≤ 512 → length codes ≡ length stars * sh.w
      → build_answer (index sh stars codes (replicate 4112 0) (replicate 16384 0)) ≡ Ok tt
  unfolding build_answer
  builds stars codes few whole =
      let x = index sh stars codes (replicate 4112 0) (replicate 16384 0) in
      let fits : Fits x = record {
        shape = headed-listed;
        few = omega arith;
        whole = whole;
        starts = rw (length-replicate {A = ℕ} 4112 0) starts-room;
        ids = rw (length-replicate {A = ℕ} 16384 0) (omega (arith, two, h.most, mul-le-mul (let l : m sh ≤ 32 = omega (arith, two, h.most) in l) few));
      } in
      unrefused x fits _ (Ok tt)
