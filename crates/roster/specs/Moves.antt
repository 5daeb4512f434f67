-- Which kinds of moves there are, and their numbers. Assumes nothing.
use Rattle.std.specs.Prelude.{◌≡◌, ◌≢◌, ℕ, Result, MatchResult}
use Rattle.roster.specs.declared.denial.Denial.{Denial}
use Rattle.roster.specs.declared.denial.Denial.TheVariants.{NoSuchAddress}
use Rattle.roster.specs.declared.moves.MoveKind.{MoveKind}
use Rattle.roster.specs.declared.moves.MoveKind.TheVariants.{Stray, HandOver, Wake}

abbrev pub kind_number : MoveKind → ℕ
kind_number Stray = 1
kind_number HandOver = 2
kind_number Wake = 3

-- the kind that goes by a number, or the refusal of a number that none goes by
abbrev pub Named : ℕ → Result MoveKind Denial → Type 0
Named n r = MatchResult r (λ kind. n ≡ kind_number kind) (λ e. (e ≡ NoSuchAddress) × ((kind : MoveKind) → n ≢ kind_number kind))
