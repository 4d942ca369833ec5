-- `tables::Part::of` meets its contract: a listed shape's substrings have a few bits, and lie within a code. Assumes nothing.
use mathlib.Core.Path.{◌≡◌, ap}
use Rattle.scope.specs.declared.Shape.{Shape}
use Rattle.scope.proofs.Shapes.{facts, in_code}
use Rattle.tables.proofs.Part.of.Goals as goal

pub invariant_of-codes : goal.invariant_of-codes
invariant_of-codes c =
    let w : c.shape.inside.shape.w ≡ c.args.shape.w = ap (λ (s : Shape). s.w) c.shape.view_is in
    record { few_words = rw w (facts _ (rw c.shape.view_is at c.shape.invariant)).few_words }

pub invariant_of-table : goal.invariant_of-table
invariant_of-table c =
    let sh = c.args.shape in
    let z = c.args.z in
    let g = facts sh (rw c.shape.view_is at c.shape.invariant) in
    let w : c.shape.inside.shape.w ≡ sh.w = ap (λ (s : Shape). s.w) c.shape.view_is in
    record {
      some_bits = rw c.bits.ensures.value (g.some_bits z);
      few_bits = rw c.bits.ensures.value (g.few_bits z);
      in_code = rw (c.first_bit.ensures, c.bits.ensures.value, w) (in_code sh g z c.requires.shape);
      few = c.requires.codes.0;
      whole = rw w c.requires.codes.1;
    }
