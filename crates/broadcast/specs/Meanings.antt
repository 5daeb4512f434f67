-- What a list of cells means to the user of a carrier that works on it. Assumes nothing.
use Rattle.std.specs.Prelude.{◌≡◌, ℕ, ◌<◌, Bool, true, false, cond, not, ◌&&◌, List, ◌++◌, drop, replicate, None, slice_index_or}
use Rattle.carrier.specs.Views.{View}
use Rattle.roster.specs.declared.roster.Roster.{Roster}
use Rattle.broadcast.specs.declared.cell.Cell.{Cell}
use Rattle.broadcast.specs.Cells.{blank, none}
use Rattle.broadcast.specs.Rows.{room, fits, row}
use Rattle.broadcast.specs.Stills.{still}

-- a list that is too short means nothing
abbrev pub meaning : Roster → List Cell → Bool → View
meaning r cs touched = record {
  fixed = record { roster = r; matched = fits r.size.n cs };
  untouched = not (fits r.size.n cs && touched);
  still = fits r.size.n cs && still r cs;
  puts = λ i s. cond (fits r.size.n cs) (row r.size.n cs i s i).put None;
  held = λ p o s. cond (fits r.size.n cs) (row r.size.n cs o s p).held None;
}

-- a list that is long enough is cleared as far as it is worked on
abbrev pub cleared : ℕ → List Cell → List Cell
cleared n cs = cond (fits n cs) (replicate (room n) blank ++ drop (room n) cs) cs

-- until it is touched, all cells that are worked on are blank
abbrev pub Clear : ℕ → List Cell → Bool → Type 0
Clear n cs touched = touched ≡ false → fits n cs ≡ true → (k : ℕ) → k < room n → slice_index_or cs k none ≡ blank
