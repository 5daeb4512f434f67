-- What a letter is in bytes, and where bytes cease to be one. Assumes nothing.
use Rattle.std.specs.Prelude.{◌≡◌, ℕ, zero, suc, ◌+◌, ◌/◌, ◌%◌, ◌^◌, ◌<◌, ◌≤◌, Bool, true, ◌&&◌, List, [], ◌∷◌, ◌++◌, length, take, nat_le, slice_index}
use Rattle.std.specs.Int.Digits.{number_from_digits}
use Rattle.wire.specs.declared.letter.Letter.{Letter}

-- as many low bytes of a number as `width` says, the high byte first
abbrev pub big_endian : ℕ → ℕ → List ℕ
big_endian zero n = []
big_endian (suc width) n = n / 256 ^ width % 256 ∷ big_endian width n

-- the number that bytes write, the high byte first
abbrev pub value : List ℕ → ℕ
value bs = number_from_digits 256 bs

-- a tag, the length of the content in two bytes, and the content
abbrev pub field : ℕ → List ℕ → List ℕ
field tag content = tag ∷ big_endian 2 (length content) ++ content

unfoldable pub bytes_of : Letter → List ℕ
bytes_of l =
    field 1 (l.kind ∷ []) ++ (field 2 (l.origin ∷ []) ++ (field 3 (l.slot ∷ []) ++ field 4 (big_endian 8 l.code)))

abbrev pub one_to : ℕ → ℕ → Bool
one_to most n = nat_le 1 n && nat_le n most

-- the ranges of a letter's numbers
abbrev pub proper : Letter → Bool
proper l = one_to 3 l.kind && (one_to 10 l.origin && one_to 2 l.slot)

pub record Proper (l : Letter) : Type 0 where
  pub ranges : proper l ≡ true
  pub code : l.code < 2 ^ 64

abbrev pub IsLetter : List ℕ → Type 0
IsLetter bs = (l : Letter) × Proper l × (bs ≡ bytes_of l)

-- some letter has these bytes in front
abbrev pub Begins : List ℕ → Type 0
Begins bs = (rest : List ℕ) × IsLetter (bs ++ rest)

-- the front of this length begins some letter, and no longer one does
pub record Longest (bs : List ℕ) (place : ℕ) : Type 0 where
  pub within : place ≤ length bs
  pub begins : Begins (take place bs)
  pub longest : (k : ℕ) → place < k → k ≤ length bs → Begins (take k bs) → ⊥

-- the four bytes from a place on, as one number, are in a range
abbrev pub WordWithin : List ℕ → ℕ → ℕ → ℕ → Type 0
WordWithin bs k low high =
    let word = value (slice_index bs k ∷ slice_index bs (k + 1) ∷ slice_index bs (k + 2) ∷ slice_index bs (k + 3) ∷ []) in
    (low ≤ word) × (word ≤ high)
