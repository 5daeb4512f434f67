-- What the fields of a letter hold, and what `read` answers. Assumes nothing.
use Rattle.std.specs.Prelude.{◌≡◌, ℕ, ◌%◌, ◌^◌, List, take, drop}
use Rattle.roster.specs.declared.denial.Denial.{Denial}
use Rattle.roster.specs.declared.denial.Denial.TheVariants.{NoLetter}
use Rattle.wire.specs.declared.field.Field.{Field}
use Rattle.wire.specs.declared.field.Field.TheVariants.{Kind, Origin, Slot, Code}
use Rattle.wire.specs.declared.field.Fields.{Fields}
use Rattle.wire.specs.declared.letter.Letter.{Letter}
use Rattle.wire.specs.Letters.{bytes_of, value, Proper, IsLetter, Longest}

-- the bytes that a field borrows
abbrev pub content : Field → List ℕ
content (Kind c) = c.now
content (Origin c) = c.now
content (Slot c) = c.now
content (Code c) = c.now

abbrev pub tag_of : Field → ℕ
tag_of (Kind c) = 1
tag_of (Origin c) = 2
tag_of (Slot c) = 3
tag_of (Code c) = 4

abbrev pub number_in : Field → ℕ
number_in f = value (content f) % 2 ^ 64

abbrev pub letter_of : Fields → Letter
letter_of fs = record { kind = number_in fs.kind; origin = number_in fs.origin; slot = number_in fs.slot; code = number_in fs.code }

-- a field with this tag, over these bytes
pub record Over (tag : ℕ) (bytes : List ℕ) (f : Field) : Type 0 where
  pub tagged : tag_of f ≡ tag
  pub holds : content f ≡ bytes

-- each field is over its part of the bytes
pub record Cut (bs : List ℕ) (fs : Fields) : Type 0 where
  pub kind : Over 1 (take 1 (drop 3 bs)) fs.kind
  pub origin : Over 2 (take 1 (drop 7 bs)) fs.origin
  pub slot : Over 3 (take 1 (drop 11 bs)) fs.slot
  pub code : Over 4 (take 8 (drop 15 bs)) fs.code

-- the fields of the letter that these bytes are
pub record Parts (bs : List ℕ) (fs : Fields) : Type 0 where
  pub cut : Cut bs fs
  pub is_proper : Proper (letter_of fs)
  pub whole : bs ≡ bytes_of (letter_of fs)

-- the refusal of bytes that are no letter
pub record Refused (bs : List ℕ) (e : Denial) : Type 0 where
  pub place : ℕ
  pub is : e ≡ NoLetter place
  pub none : IsLetter bs → ⊥
  pub longest : Longest bs place
