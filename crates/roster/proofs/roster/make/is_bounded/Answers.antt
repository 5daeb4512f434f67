use Rattle.std.proofs.Common.{leb, ◌∙◌, ap₂, rules}
use Rattle.roster.proofs.Rosters.{bounded_bits}
use Rattle.roster.proofs.roster.make.is_bounded.Goals as goal

pub returns-then-faulty-n : goal.returns-then-faulty-n
returns-then-faulty-n c =
    ap₂ leb c.from.ensures c.t.ensures ∙ bounded_bits _ _ _ (search rules)
