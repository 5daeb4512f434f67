-- What the cells of a list that has enough of them say. Assumes nothing.
use Rattle.std.specs.Prelude.{ℕ}
use Rattle.broadcast.specs.declared.cell.Cell.{Cell}
use Rattle.broadcast.specs.Rows.{row}
use Rattle.letters.specs.declared.letters.rows.Rows.{Rows}

-- the cell of each receiver, for an origin and slot
abbrev pub row_in : Rows → ℕ → ℕ → ℕ → Cell
row_in w origin slot = row w.roster.size.n w.cells.now origin slot
