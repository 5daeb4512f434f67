use Rattle.std.proofs.Common.{◌∙◌}
use Rattle.roster.specs.Votes.{by_seat}
use Rattle.settling.proofs.Same.{due_is}
use Rattle.reduction.specs.Parts.{layer_of}
use Rattle.reduction.proofs.reduction.Reduction.due.Goals as goal

pub returns : goal.returns
returns g c =
    c.due.ensures
    ∙ due_is (layer_of g.C.Carrier g.B.Agreement c.args.self.now) c.args.seat c.size.result c.seat.result (by_seat c.row.result) (by_seat c.row-2.result) c.decided.result
    c.size.ensures c.seat.ensures c.decided.ensures c.row.ensures c.row-2.ensures
