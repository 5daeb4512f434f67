-- The number that a word writes. Assumes nothing.
use Rattle.std.specs.Prelude.{◌≡◌, ℕ, ◌+◌, ◌-◌, ◌^◌, ◌<◌, List, length, Some, Option, slice_index}
use Rattle.std.specs.Option.{SomeIff}
use Rattle.std.specs.Str.Parse.{IsNumeral, digits_value}
use Rattle.script.specs.Words.{word_at}

-- r is the value of the word's decimal digits, of which there is one or more and nothing else, if it is below 2 ^ 64; else r is None
abbrev pub Number : List ℕ → Option ℕ → Type 0
Number word r = SomeIff r (IsNumeral 10 word × (digits_value 10 word < 2 ^ 64)) (digits_value 10 word)

-- the words after the first write these numbers
pub record Follow (ws : List (List ℕ)) (ns : List ℕ) : Type 0 where
  pub many : length ns ≡ length ws - 1
  pub each : (k : ℕ) → k < length ns → Number (word_at ws (k + 1)) (Some (slice_index ns k))
