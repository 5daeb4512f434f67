use Rattle.std.proofs.Common.{◌≡◌, ◌≤◌}
use Rattle.roster.specs.Votes.{by_seat, votes}
use Rattle.roster.proofs.votes.count_votes.Given as goal

abbrev pub invariant-loop-said : goal.invariant-loop-said
invariant-loop-said l = (l.sum ≡ votes l.said-index (by_seat l.by) l.code) × (l.sum ≤ l.said-index)
