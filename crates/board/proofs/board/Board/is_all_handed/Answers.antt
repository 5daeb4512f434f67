use Rattle.std.proofs.Common.{rules}
use Rattle.std.proofs.iter.runs.Sources.{ranges}
use Rattle.board.specs.Meaning.{all_ten, all_to}
use Rattle.roster.proofs.Seating.{all_of}
use Rattle.board.proofs.board.Board.is_all_handed.Goals as goal

pub returns : goal.returns
unfolding all_ten
returns c = all_of _ _ _ _ (all_to c.args.self.now) 10 c.all.result c.all.ensures.runs (λ q e. search (rules, ranges)) (search rules)
