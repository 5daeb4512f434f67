-- Where each cell stands in a list of them. Assumes nothing.
use Rattle.std.specs.Prelude.{ℕ, ◌+◌, ◌-◌, ◌*◌, Bool, cond, ◌&&◌, List, length, nat_le, slice_index_or}
use Rattle.carrier.specs.Views.{is_slot}
use Rattle.roster.specs.Counting.{is_seat}
use Rattle.broadcast.specs.declared.cell.Cell.{Cell}
use Rattle.broadcast.specs.Cells.{none}

-- a cell for each receiver, origin and slot
abbrev pub room : ℕ → ℕ
room n = 2 * n * n

abbrev pub fits : ℕ → List Cell → Bool
fits n cs = nat_le (room n) (length cs)

abbrev pub within : ℕ → ℕ → ℕ → ℕ → Bool
within n receiver origin slot = is_seat n receiver && (is_seat n origin && is_slot slot)

-- the cells of a slot stand together, and in it those of an origin
abbrev pub place : ℕ → ℕ → ℕ → ℕ → ℕ
place n receiver origin slot = ((slot - 1) * n + (origin - 1)) * n + (receiver - 1)

-- the row of an origin and slot: the cell of each receiver
unfoldable pub row : ℕ → List Cell → ℕ → ℕ → ℕ → Cell
row n cs origin slot receiver = cond (within n receiver origin slot) (slice_index_or cs (place n receiver origin slot) none) none
