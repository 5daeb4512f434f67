-- What the C entry points answer. Assumes nothing.
use Rattle.std.specs.Prelude.{◌≡◌, ℕ, ◌⊎◌, List, Ok, Err, Result}
use Rattle.firmware.specs.declared.Checked.{Checked}
use Rattle.roster.specs.declared.denial.Denial.{Denial}
use Rattle.roster.specs.Denials.{number_of}
use Rattle.wire.specs.declared.letter.Letter.{Letter}
use Rattle.wire.specs.Letters.{IsLetter, Longest}

-- 0 and 23 for a letter; 12 for bytes that are none, and the length of the longest front that begins one
abbrev pub Answers : List ℕ → Checked → Type 0
Answers bs r =
    ((r.denial ≡ 0) × (r.place ≡ 23) × IsLetter bs) ⊎ ((r.denial ≡ 12) × (IsLetter bs → ⊥) × Longest bs r.place)

-- 0 for what was done, else the refusal's number
abbrev pub number_in : Result (Unit {0}) Denial → ℕ
number_in (Ok done) = 0
number_in (Err e) = number_of e

abbrev pub letter_with : ℕ → ℕ → ℕ → ℕ → Letter
letter_with kind origin slot code = record { kind = kind; origin = origin; slot = slot; code = code }
