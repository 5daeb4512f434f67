-- Where a board keeps what: 10 seats of 2 slots each, and as many places for each receiver. Assumes nothing.
use Rattle.std.specs.Prelude.{ℕ, ◌+◌, ◌-◌, ◌*◌, Bool, cond, ◌&&◌, List, None, Option, slice_index_or}
use Rattle.carrier.specs.Views.{is_slot}
use Rattle.roster.specs.Counting.{is_seat}

abbrev pub is_place : ℕ → ℕ → Bool
is_place o s = is_seat 10 o && is_slot s

abbrev pub is_held_place : ℕ → ℕ → ℕ → Bool
is_held_place i o s = is_seat 10 i && is_place o s

abbrev pub place : ℕ → ℕ → ℕ
place o s = 2 * (o - 1) + (s - 1)

abbrev pub held_place : ℕ → ℕ → ℕ → ℕ
held_place i o s = 20 * (i - 1) + place o s

-- what a seat wrote for a slot
abbrev pub writing : List (Option ℕ) → ℕ → ℕ → Option ℕ
writing ws o s = cond (is_place o s) (slice_index_or ws (place o s) None) None

-- what a seat holds from an origin and slot
abbrev pub holding : List (Option ℕ) → ℕ → ℕ → ℕ → Option ℕ
holding hs i o s = cond (is_held_place i o s) (slice_index_or hs (held_place i o s) None) None
