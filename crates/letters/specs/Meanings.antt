-- What a carrier of letters means: what its cells mean. Assumes nothing.
use Rattle.std.specs.Prelude.{ℕ, Bool, List, Result}
use Rattle.roster.specs.declared.denial.Denial.{Denial}
use Rattle.roster.specs.declared.moves.Move.{Move}
use Rattle.carrier.specs.Views.{View}
use Rattle.broadcast.specs.declared.cell.Cell.{Cell}
use Rattle.broadcast.specs.declared.letter.Letter.{Letter}
use Rattle.broadcast.specs.Meanings.{meaning}
use Rattle.broadcast.specs.Moves.{due}
use Rattle.broadcast.specs.Rows.{fits, row}
use Rattle.letters.specs.declared.letters.Letters.{Letters}

module _ (l : Letters) where
  abbrev pub cells_of : List Cell
  cells_of = l.cells.now

  abbrev pub has_room : Bool
  has_room = fits l.roster.size.n cells_of

  -- the cell of each receiver, for an origin and slot
  abbrev pub row_of : ℕ → ℕ → ℕ → Cell
  row_of origin slot = row l.roster.size.n cells_of origin slot

  abbrev pub due_in : Move → Result Letter Denial
  due_in by = due l.roster cells_of by

  abbrev pub view_of : View
  view_of = meaning l.roster cells_of l.touched
