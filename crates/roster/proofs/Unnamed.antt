-- What a number that names no kind of move comes to. Assumes nothing.
use Rattle.std.proofs.Common.{ℕ, ◌≡◌, cond, eqb, ◌≢◌, ◌∙◌}
use Rattle.std.proofs.lemmas.Bool.{cond-false, ne_eqb}
use Rattle.roster.specs.declared.moves.MoveKind.{MoveKind}
use Rattle.roster.specs.declared.moves.MoveKind.TheVariants.{Stray, HandOver}
use Rattle.roster.specs.Moves.{kind_number}

-- neither what a stray act gives nor what a hand-over gives
pub unnamed : {A : Type 0} (n : ℕ) (stray handed other : A) → ((kind : MoveKind) → n ≢ kind_number kind) → cond (eqb n 1) stray (cond (eqb n 2) handed other) ≡ other
unnamed n stray handed other none =
    cond-false _ _ _ (ne_eqb n 1 (none Stray)) ∙ cond-false _ _ _ (ne_eqb n 2 (none HandOver))
