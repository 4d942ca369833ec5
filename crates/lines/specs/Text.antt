-- Numbers as text, and a line of fields. A text is a list of ASCII codes; `decimal` is std's. Assumes nothing.
use Rattle.std.specs.Prelude.{ℕ, zero, suc, ◌+◌, ◌/◌, ◌%◌, cond, List, [], ◌∷◌, ◌++◌, ltb}

-- the ASCII code of a digit below 16: 0 to 9, then a to f
abbrev pub digit : ℕ → ℕ
digit d = cond (ltb d 10) (48 + d) (87 + d)

-- the last k hexadecimal digits, highest first
unfoldable pub hex : ℕ → ℕ → List ℕ
hex zero n = []
hex (suc k) n = hex k (n / 16) ++ digit (n % 16) ∷ []

-- fields with one space between, and a line feed
abbrev pub line : List (List ℕ) → List ℕ
line [] = 10 ∷ []
line (f ∷ []) = f ++ 10 ∷ []
line (f ∷ g ∷ fs) = f ++ 32 ∷ line (g ∷ fs)
