use Rattle.std.proofs.Common.{false, Some, rules}
use Rattle.board.proofs.Effects.{write_keeps, hand_keeps}
use Rattle.roster.proofs.Unnamed.{unnamed}
use Rattle.roster.specs.declared.denial.Denial.TheVariants.{NoSuchAddress}
use Rattle.board.specs.Rules.{write_denial, hand_denial}
use Rattle.board.proofs.board.carry.BoardCarrier.step.Goals as goal

pub returns-in_err-try_from-clause-value : goal.returns-in_err-try_from-clause-value
returns-in_err-try_from-clause-value c =
    let none = unnamed c.args.by.kind (write_denial c.args.self.now false c.args.by.from c.args.by.slot) (hand_denial c.args.self.now c.args.by.from c.args.by.to c.args.by.slot) (Some NoSuchAddress) (search rules) in
    search (rules, none)

pub returns-in_err-try_from-clause-steps : goal.returns-in_err-try_from-clause-steps
returns-in_err-try_from-clause-steps c =
    let none = unnamed c.args.by.kind (write_denial c.args.self.now false c.args.by.from c.args.by.slot) (hand_denial c.args.self.now c.args.by.from c.args.by.to c.args.by.slot) (Some NoSuchAddress) (search rules) in
    record { value = search (rules, none); stray = search rules; handed = search rules }

pub returns-in-Stray-clause-keeps : goal.returns-in-Stray-clause-keeps
returns-in-Stray-clause-keeps c =
    write_keeps _ _ false _ _ _ _ c.write.ensures.value c.write.ensures.after c.write.ensures.same

pub returns-in-HandOver-clause-keeps : goal.returns-in-HandOver-clause-keeps
returns-in-HandOver-clause-keeps c =
    hand_keeps _ _ _ _ _ _ c.hand.ensures.value c.hand.ensures.after c.hand.ensures.same
