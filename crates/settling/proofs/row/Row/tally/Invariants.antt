use Rattle.std.proofs.Common.{◌≡◌}
use Rattle.roster.specs.Votes.{by_seat}
use Rattle.settling.specs.Rules.{leading}
use Rattle.settling.proofs.row.Row.tally.Given as goal

abbrev pub invariant-loop-settled : goal.invariant-loop-settled
invariant-loop-settled l = l.lead ≡ leading l.self.size.n (by_seat l.self.settled) l.settled-index
