-- The kinds of letters by number. Assumes nothing.
use Rattle.std.specs.Prelude.{ℕ, cond, Some, None, Option, ◌==◌}
use Rattle.broadcast.specs.declared.letter.Kind.{Kind}
use Rattle.broadcast.specs.declared.letter.Kind.TheVariants.{Init, Echo, Ready}

abbrev pub kind_of : ℕ → Option Kind
kind_of k = cond (k == 1) (Some Init) (cond (k == 2) (Some Echo) (cond (k == 3) (Some Ready) None))
