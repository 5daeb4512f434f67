-- Who said what: a row has what each seat said, if it said anything. Assumes nothing.
use Rattle.std.specs.Prelude.{ℕ, ◌-◌, Bool, false, not, List, is_some, Some, None, Option, ◌==◌, slice_index_or}
use Rattle.roster.specs.Counting.{count}

-- the row that a list holds: seat k stands at index k - 1
abbrev pub by_seat : {A : Type 0} → List (Option A) → ℕ → Option A
by_seat xs seat = slice_index_or xs (seat - 1) None

abbrev pub is : ℕ → Option ℕ → Bool
is v None = false
is v (Some w) = w == v

abbrev pub differs : ℕ → Option ℕ → Bool
differs v None = false
differs v (Some w) = not (w == v)

module _ {A : Type 0} (n : ℕ) (row : ℕ → Option A) where
  -- how many of the seats 1 to n said what passes the test
  abbrev pub passing : (Option A → Bool) → ℕ
  passing test = count (λ seat. test (row seat)) n

  -- how many said anything
  abbrev pub said : ℕ
  said = passing is_some

module _ (n : ℕ) (row : ℕ → Option ℕ) where
  -- how many said v
  abbrev pub votes : ℕ → ℕ
  votes v = passing n row (is v)

  -- how many said something else than v
  abbrev pub others : ℕ → ℕ
  others v = passing n row (differs v)
