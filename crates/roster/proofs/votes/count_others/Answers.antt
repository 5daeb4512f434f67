use Rattle.std.proofs.Common.{arith}
use Rattle.roster.specs.Votes.{by_seat}
use Rattle.roster.proofs.Voting.{said_split}
use Rattle.roster.proofs.votes.count_others.Goals as goal

pub overflow_sub-result : goal.overflow_sub-result
overflow_sub-result c = omega (arith, said_split c.args.size.n (by_seat c.args.by.now) c.args.code)

pub returns : goal.returns
returns c = omega (arith, said_split c.args.size.n (by_seat c.args.by.now) c.args.code)
