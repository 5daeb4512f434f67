use Rattle.std.proofs.Common.{rules}
use Rattle.std.proofs.iter.runs.Sources.{ranges}
use Rattle.roster.proofs.Seating.{all_of}
use Rattle.broadcast.specs.Stills.{handed_to, row_still}
use Rattle.letters.specs.Rows.{row_in}
use Rattle.letters.proofs.letters.rows.Rows.is_row_still.Goals as goal

pub returns : goal.returns
unfolding row_still
returns c =
    let s = c.args.self.now in
    all_of _ _ _ _ (handed_to s.roster (row_in s c.args.origin c.args.slot)) s.roster.size.n c.all.result c.all.ensures.runs (λ q e. search (rules, ranges)) (search rules)
