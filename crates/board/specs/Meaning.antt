-- What a board means as a carrier. Assumes nothing.
use Rattle.std.specs.Prelude.{◌≡◌, ℕ, Bool, true, cond, not, ◌&&◌, ◌||◌, is_some, Some, None}
use Rattle.carrier.specs.Views.{View}
use Rattle.roster.specs.Counting.{all}
use Rattle.roster.specs.Rosters.{sound}
use Rattle.board.specs.declared.board.Board.{Board}
use Rattle.board.specs.Places.{writing, holding}

-- whether each of 1 to 10 passes
unfoldable pub all_ten : (ℕ → Bool) → Bool
all_ten p = all p 10

module _ (b : Board) where
  -- nothing is left to hand over to i from o and s
  abbrev pub handed : ℕ → ℕ → ℕ → Bool
  handed i o s = not (is_some (writing b.written o s)) || is_some (holding b.held i o s)

  abbrev pub all_from : ℕ → ℕ → Bool
  all_from i o = handed i o 1 && handed i o 2

  abbrev pub all_to : ℕ → Bool
  all_to i = not (sound b.roster i) || all_ten (all_from i)

  abbrev pub board_view : View
  board_view = record {
    fixed = record { roster = b.roster; matched = true };
    untouched = not b.touched;
    -- all that was written was handed to every sound seat
    still = all_ten all_to;
    -- a faulty seat puts nothing: what it writes is a stray act
    puts = λ i s. cond (sound b.roster i) (writing b.written i s) None;
    held = λ i o s. holding b.held i o s;
  }

  -- what every call keeps: a holding is what was written there
  abbrev pub Kept : Type 0
  Kept = (i o s c : ℕ) → holding b.held i o s ≡ Some c → writing b.written o s ≡ Some c
