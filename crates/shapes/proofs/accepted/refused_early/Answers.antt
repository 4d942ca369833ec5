-- `refused_early` meets its contract: its three tests are the five rows of refusals 1 to 3. Assumes nothing.
use mathlib.Core.Path.{◌≡◌, refl, sym, ap, ◌∙◌}
use mathlib.Core.Bool.{Bool, true, false, not, ◌||◌, cond}
use Prim.Native.Nat.{◌*◌}
use lib.Dec.{eqb, ltb}
use lib.ListN.{length}
use Rattle.std.specs.Prelude.{⊤, Result, Ok, Err}
use Rattle.scope.specs.declared.Refusal.{Refusal}
use Rattle.scope.specs.declared.Refusal.TheVariants.{Catalogue, Tables}
use Rattle.scope.specs.Shape.{listed, m, starts_before}
use Rattle.scope.specs.Tables.{Index, n}
use Rattle.scope.specs.Refusals.{unless, one_to_three, allowed}
use Rattle.scope.proofs.Rows.{passed_on}
use Rattle.shapes.proofs.Accepting.{accepts, refuses_first}
use Rattle.shapes.proofs.accepted.refused_early.Goals as goal

-- refusals 2 and 3 as one test each
abbrev misfit : Index → Bool
misfit x = ltb 65536 (n x) || not (eqb (length x.codes) (n x * x.shape.w))

abbrev short : Index → Bool
short x = ltb (length x.starts) (starts_before x.shape (m x.shape)) || ltb (length x.ids) (m x.shape * n x)

cond-or : {A : Type 0} (a b : Bool) (x y : A) → cond a x (cond b x y) ≡ cond (a || b) x y
cond-or true b x y = refl
cond-or false b x y = refl

-- of a listed shape these two decide
listed_is : (x : Index) (two three : Bool) → listed x.shape ≡ true → misfit x ≡ two → short x ≡ three
    → ◌≡◌ {A = Result ⊤ Refusal} (cond two (Err Catalogue) (cond three (Err Tables) (Ok tt))) (allowed (one_to_three x))
unfolding unless
listed_is x two three known p q =
    rw (← p, ← q, known) (sym (cond-or (ltb 65536 (n x)) _ (Err Catalogue) _ ∙ ap (cond (misfit x) (Err Catalogue)) (cond-or (ltb (length x.starts) _) _ (Err Tables) (Ok tt))))

pub returns-in_err-shape : goal.returns-in_err-shape
returns-in_err-shape c = rw (passed_on c.from_residual.ensures.1, ← c.index.view_is) (refuses_first _ _ _ c.in_err-shape.ensures)

pub returns-then-misfit : goal.returns-then-misfit
returns-then-misfit c =
    let (known, same) = accepts _ c.in_ok-shape.ensures in
    let two = rw same at c.misfit.ensures in
    rw (← c.index.view_is) (listed_is _ true _ known (sym two ∙ c.if-misfit.true) refl)

pub returns-then-short : goal.returns-then-short
returns-then-short c =
    let (known, same) = accepts _ c.in_ok-shape.ensures in
    let two = rw same at c.misfit.ensures in
    let three = rw same at c.short.ensures in
    rw (← c.index.view_is) (listed_is _ false true known (sym two ∙ c.if-misfit.false) (sym three ∙ c.if-short.true))

pub returns : goal.returns
returns c =
    let (known, same) = accepts _ c.in_ok-shape.ensures in
    let two = rw same at c.misfit.ensures in
    let three = rw same at c.short.ensures in
    rw (← c.index.view_is) (listed_is _ false false known (sym two ∙ c.if-misfit.false) (sym three ∙ c.if-short.false))
