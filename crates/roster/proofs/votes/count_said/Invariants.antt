use Rattle.std.proofs.Common.{◌≡◌, ◌≤◌}
use Rattle.roster.specs.Votes.{by_seat, said}
use Rattle.roster.proofs.votes.count_said.Given as goal

abbrev pub invariant-loop-said : goal.invariant-loop-said
invariant-loop-said g l = (l.sum ≡ said l.said-index (by_seat l.by)) × (l.sum ≤ l.said-index)
