use Rattle.std.proofs.Common.{None, rules}
use Rattle.agreement.specs.Views.{seat_denial}
use Rattle.roster.proofs.Checks.{refused}
use Rattle.settling.specs.Layers.{meaning}
use Rattle.reduction.specs.Parts.{layer_of}
use Rattle.reduction.proofs.reduction.agree.ReductionAgreement.decision.Goals as goal

pub returns-in_err-check_seat : goal.returns-in_err-check_seat
returns-in_err-check_seat g c =
    let v = meaning (layer_of g.C.Carrier g.B.Agreement c.args.self.now) in
    let same = refused (seat_denial v.fixed c.args.seat None) c.in_err-check_seat.field-0.0 (v.decided c.args.seat) (search rules) in
    search (rules, same)
