-- Bytes as digits of base 16. Assumes nothing.
use Rattle.std.specs.Prelude.{◌≡◌, ℕ, ◌+◌, ◌*◌, ◌/◌, ◌%◌, ◌<◌, true, List, [], ◌∷◌, length, Ok, Err, vec_items, Result, Vec, MatchResult, slice_index}
use Rattle.script.specs.declared.hex.NoHex.{NoHex}
use Rattle.script.specs.declared.hex.NoHex.TheVariants.{Digit, Odd, Memory}
use Rattle.std.specs.List.{AllByRecursion}
use Rattle.std.specs.Char.{digit_value}
use Rattle.std.specs.Fmt.{digit_glyph}

-- two upper-case digits a byte, the high one first
abbrev pub hex_of : List ℕ → List ℕ
hex_of [] = []
hex_of (b ∷ bs) = digit_glyph true (b / 16) ∷ digit_glyph true (b % 16) ∷ hex_of bs

-- each byte of the text is a digit of base 16, of either case
abbrev pub HexDigits : List ℕ → Type 0
HexDigits text = (k : ℕ) → k < length text → digit_value (slice_index text k) < 16

-- the text has two such digits for each of the bytes, the high one first
pub record InHex (text bytes : List ℕ) : Type 0 where
  pub digits : HexDigits text
  pub two : length text ≡ 2 * length bytes
  pub pairs : (k : ℕ) → k < length bytes → slice_index bytes k ≡ 16 * digit_value (slice_index text (2 * k)) + digit_value (slice_index text (2 * k + 1))

-- what a reader answers: the bytes, or which of these is the first to hold: a byte is no digit, the digits are odd in number, memory is short
abbrev pub Decoded : {A : Type 0} → List ℕ → Result (Vec ℕ A) NoHex → Type 0
Decoded text (Ok v) = InHex text (vec_items v)
Decoded text (Err Digit) = HexDigits text → ⊥
Decoded text (Err Odd) = HexDigits text × (length text % 2 ≡ 1)
Decoded text (Err Memory) = HexDigits text × (length text % 2 ≡ 0)

-- what was written of bytes gives them back, unless memory is short
abbrev pub ReadsBack : {A : Type 0} → List ℕ → Result (Vec ℕ A) NoHex → Type 0
ReadsBack text r = (bytes : List ℕ) → AllByRecursion (λ b. b < 256) bytes → text ≡ hex_of bytes → MatchResult r (λ v. vec_items v ≡ bytes) (λ e. e ≡ Memory)
