-- When nothing is on its way: all that sound seats sent has been counted by all sound seats. That one was counted is enough to
-- ask, since it is the one that was sent. Assumes nothing.
use Rattle.std.specs.Prelude.{ℕ, Bool, not, ◌&&◌, ◌||◌, List}
use Rattle.roster.specs.Counting.{all}
use Rattle.roster.specs.declared.roster.Roster.{Roster}
use Rattle.roster.specs.Rosters.{sound}
use Rattle.broadcast.specs.declared.cell.Cell.{Cell}
use Rattle.broadcast.specs.Rows.{row}
use Rattle.broadcast.specs.Rules.{handed}

module _ (r : Roster) (x : ℕ → Cell) where
  -- what a sender sent, if it is sound
  abbrev pub handed_from : ℕ → ℕ → Bool
  handed_from receiver sender = not (sound r sender) || handed sender (x sender) (x receiver)

  -- what all sent, if the receiver is sound
  abbrev pub handed_to : ℕ → Bool
  handed_to receiver = not (sound r receiver) || all (handed_from receiver) r.size.n

  unfoldable pub row_still : Bool
  row_still = all handed_to r.size.n

-- of both slots of an origin
abbrev pub origin_still : Roster → List Cell → ℕ → Bool
origin_still r cs origin = row_still r (row r.size.n cs origin 1) && row_still r (row r.size.n cs origin 2)

unfoldable pub still : Roster → List Cell → Bool
still r cs = all (origin_still r cs) r.size.n
