use Rattle.std.proofs.Common.{arith}
use Rattle.roster.proofs.Quorums.{quorums}
use Rattle.roster.proofs.size.Size.new.Goals as goal

pub returns-clause-quorums : goal.returns-clause-quorums
returns-clause-quorums c = quorums _ _ (omega arith)
