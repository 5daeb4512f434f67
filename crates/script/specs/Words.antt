-- The words of a text. Assumes nothing.
use Rattle.std.specs.Prelude.{◌≡◌, ℕ, ◌<◌, ◌⊎◌, List, [], ◌∷◌, ◌++◌, length, slice_index, slice_index_or}
use Rattle.std.specs.Char.{is_whitespace, is_not_whitespace}
use Rattle.std.specs.Str.{NoCharPasses, EmptyOrStartsWithPassing}

-- the text is white space, the word, and rest, which is empty or begins with white space
pub record First (text word rest : List ℕ) : Type 0 where
  pub gap : List ℕ
  pub cut : text ≡ gap ++ (word ++ rest)
  pub some : 0 < length word
  pub blank : NoCharPasses is_not_whitespace gap
  pub solid : NoCharPasses is_whitespace word
  pub ends : (more : List ℕ) × EmptyOrStartsWithPassing is_whitespace rest more

-- ws are the words of the text, in order
abbrev pub AreWords : List ℕ → List (List ℕ) → Type 0
AreWords text [] = NoCharPasses is_not_whitespace text
AreWords text (w ∷ ws) = (rest : List ℕ) × First text w rest × AreWords rest ws

-- the word at a place, and nothing past the last one
unfoldable pub word_at : List (List ℕ) → ℕ → List ℕ
word_at ws k = slice_index_or ws k []

-- nothing, or a comment, whose first word begins with #
abbrev pub Silent : List (List ℕ) → Type 0
Silent ws = (length ws ≡ 0) ⊎ (slice_index (word_at ws 0) 0 ≡ 35)
