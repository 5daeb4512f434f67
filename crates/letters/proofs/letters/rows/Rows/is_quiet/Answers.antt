use Rattle.std.proofs.Common.{rules}
use Rattle.std.proofs.iter.runs.Sources.{ranges}
use Rattle.roster.proofs.Seating.{all_of}
use Rattle.broadcast.specs.Stills.{origin_still, still}
use Rattle.letters.proofs.letters.rows.Rows.is_quiet.Goals as goal

pub returns : goal.returns
unfolding still
returns c =
    let s = c.args.self.now in
    all_of _ _ _ _ (origin_still s.roster s.cells.now) s.roster.size.n c.all.result c.all.ensures.runs (λ q e. search (rules, ranges)) (search rules)
