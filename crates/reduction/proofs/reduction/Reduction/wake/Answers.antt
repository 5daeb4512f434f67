use Rattle.std.proofs.Common.{◌≡◌, ◌≢◌, Some, ◌∙◌, rules}
use Rattle.std.proofs.lemmas.Bool.{cond-true, cond-false, ne_eqb}
use Rattle.roster.specs.declared.denial.Denial.TheVariants.{NoSuchAddress}
use Rattle.roster.specs.declared.moves.MoveKind.{MoveKind}
use Rattle.roster.specs.declared.moves.MoveKind.TheVariants.{Wake}
use Rattle.roster.specs.Moves.{kind_number}
use Rattle.settling.specs.Wakes.{wake_denial}
use Rattle.reduction.specs.Parts.{layer_of}
use Rattle.reduction.proofs.reduction.Reduction.wake.Goals as goal

pub returns-in_err-try_from-clause-value : goal.returns-in_err-try_from-clause-value
returns-in_err-try_from-clause-value g c =
    let none : (kind : MoveKind) → c.args.by.kind ≢ kind_number kind = search rules in
    let denied : wake_denial (layer_of g.C.Carrier g.B.Agreement c.args.self.now) c.args.by ≡ Some NoSuchAddress =
    cond-true _ _ _ c.requires ∙ cond-false _ _ _ (ne_eqb c.args.by.kind 3 (none Wake)) in
    search (rules, denied)
