use Rattle.std.proofs.lemmas.Option.{MatchOption-at_none}
use Rattle.jobs.proofs.parse.four_numbers.Goals as goal

pub returns-in_default : goal.returns-in_default
returns-in_default c = λ l. MatchOption-at_none _ _ c.in_default.is c.in_ok-numbers.ensures _
