-- What writing a text, or a line of fields, leaves in a list. Assumes nothing.
use Rattle.std.specs.Prelude.{ℕ, ◌+◌, ◌≤◌, ◌≡◌, List, [], ◌∷◌, length, decimal}
use Rattle.std.proofs.lemmas.List.Edits.{sets}
use Rattle.lines.specs.Text.{hex}
use Rattle.lines.specs.declared.Field.{Field}
use Rattle.lines.specs.declared.Field.TheVariants.{Word, Number, Code}

-- l' is l with text written from place at on, and r is the place after it
pub record Wrote (l : List ℕ) (at : ℕ) (text l' : List ℕ) (r : ℕ) : Type 0 where
  pub list : l' ≡ sets l at text
  pub place : r ≡ at + length text

-- so, in at most `most` bytes
pub record Put (most : ℕ) (l : List ℕ) (at : ℕ) (text l' : List ℕ) (r : ℕ) : Type 0 where
  pub wrote : Wrote l at text l' r
  pub short : r ≤ at + most

-- ---- a field's text, the most bytes that it takes, and those of a line

abbrev pub text_of : Field → List ℕ
text_of (Word word) = word.now
text_of (Number n) = decimal n
text_of (Code code) = hex 16 code

abbrev pub width : Field → ℕ
width (Word word) = length word.now
width (Number n) = 10
width (Code code) = 16

abbrev pub room : List Field → ℕ
room [] = 0
room (f ∷ fs) = width f + 1 + room fs
