use Rattle.std.proofs.Common.{false, Some, rules}
use Rattle.roster.proofs.Unnamed.{unnamed}
use Rattle.roster.specs.declared.denial.Denial.TheVariants.{NoSuchAddress}
use Rattle.umpire.specs.Calls.{note_denial, give_denial}
use Rattle.umpire.proofs.Effects.{note_keeps, give_keeps}
use Rattle.umpire.proofs.umpire.agree.UmpireAgreement.step.Goals as goal

pub returns-in_err-try_from-clause-steps : goal.returns-in_err-try_from-clause-steps
returns-in_err-try_from-clause-steps c =
    let none = unnamed c.args.by.kind (note_denial c.args.self.now false c.args.by.from c.args.by.code) (give_denial c.args.self.now c.args.by.to) (Some NoSuchAddress) (search rules) in
    record { value = search (rules, none); stray = search rules; handed = search rules }

pub returns-in-Stray-clause-keeps : goal.returns-in-Stray-clause-keeps
returns-in-Stray-clause-keeps c =
    note_keeps _ _ false _ _ _ c.note.ensures.value c.note.ensures.same c.note.ensures.after

pub returns-in-HandOver-clause-keeps : goal.returns-in-HandOver-clause-keeps
returns-in-HandOver-clause-keeps c =
    give_keeps _ _ _ _ c.give.ensures.value c.give.ensures.same c.give.ensures.after
