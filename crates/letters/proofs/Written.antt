-- One cell is written in place. Assumes nothing.
use Rattle.std.proofs.Common.{◌≡◌, ℕ, true, List, get_or, set, sym, ap, ◌∙◌, ap₂}
use Rattle.broadcast.specs.declared.cell.Cell.{Cell}
use Rattle.broadcast.specs.Cells.{none}
use Rattle.broadcast.specs.Rows.{within, place, row}
use Rattle.broadcast.proofs.Rows.{row_at}

-- the cell that the code reads and writes is that of its row
pub written : (n : ℕ) (cs : List Cell) (p o s i : ℕ) (f : Cell → Cell) (next : Cell) → within n p o s ≡ true → i ≡ place n p o s → next ≡ f (get_or cs i none)
    → set cs i next ≡ set cs (place n p o s) (f (row n cs o s p))
written n cs p o s i f next inside at is = ap₂ (set cs) at (is ∙ ap f (ap (λ j. get_or cs j none) at ∙ sym (row_at n cs o s p inside)))
