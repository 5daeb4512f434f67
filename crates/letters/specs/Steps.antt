-- The answer and the cells after a put or a move: one cell is written. Assumes nothing.
use Rattle.std.specs.Prelude.{◌≡◌, ℕ, List, Ok, Err, Result, slice_set}
use Rattle.roster.specs.declared.denial.Denial.{Denial}
use Rattle.roster.specs.declared.moves.Move.{Move}
use Rattle.broadcast.specs.declared.cell.Cell.{Cell}
use Rattle.broadcast.specs.declared.letter.Letter.{Letter}
use Rattle.broadcast.specs.Cells.{with_put}
use Rattle.broadcast.specs.Rows.{place}
use Rattle.broadcast.specs.Rules.{counted}
use Rattle.letters.specs.declared.letters.Letters.{Letters}
use Rattle.letters.specs.Meanings.{cells_of, due_in, row_of}

module _ (l : Letters) where
  -- a granted put: the seat sends INIT, which its own cell keeps
  abbrev pub after_put : ℕ → ℕ → ℕ → List Cell
  after_put seat slot code = slice_set (cells_of l) (place l.roster.size.n seat seat slot) (with_put (row_of l seat slot seat) code)

  -- a granted move: the receiver counts the letter that is due
  abbrev pub after_move : Move → Result Letter Denial → List Cell
  after_move by (Ok letter) =
      slice_set (cells_of l) (place l.roster.size.n by.to by.origin by.slot)
      (counted l.roster.size.n l.roster.size.t letter (row_of l by.origin by.slot by.to))
  after_move by (Err e) = cells_of l

abbrev pub move_answer : Result Letter Denial → Result (Unit {0}) Denial
move_answer (Ok letter) = Ok tt
move_answer (Err e) = Err e

-- what a move answers, and the cells after it: the same list
pub record Steps (l : Letters) (by : Move) (r : Result (Unit {0}) Denial) (e : Letters) : Type 0 where
  pub value : r ≡ move_answer (due_in l by)
  pub cells : cells_of e ≡ after_move l by (due_in l by)
  pub same_list : e.cells.ghost_name ≡ l.cells.ghost_name
