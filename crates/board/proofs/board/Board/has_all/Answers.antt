use Rattle.std.proofs.Common.{rules}
use Rattle.std.proofs.iter.runs.Sources.{ranges}
use Rattle.board.specs.Meaning.{all_ten, all_from}
use Rattle.roster.proofs.Seating.{all_of}
use Rattle.board.proofs.board.Board.has_all.Goals as goal

pub returns : goal.returns
unfolding all_ten
returns c = all_of _ _ _ _ (all_from c.args.self.now c.args.seat) 10 c.all.result c.all.ensures.runs (λ q e. search (rules, ranges)) (search rules)
