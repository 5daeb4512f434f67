use Rattle.std.proofs.Common.{rules}
use Rattle.std.proofs.iter.runs.Sources.{ranges}
use Rattle.roster.proofs.Seating.{all_of}
use Rattle.broadcast.specs.Stills.{handed_from}
use Rattle.broadcast.proofs.Stills.{served_out}
use Rattle.letters.specs.Rows.{row_in}
use Rattle.letters.proofs.letters.rows.Rows.is_served.Goals as goal

pub returns-in_default : goal.returns-in_default
returns-in_default c =
    let s = c.args.self.now in
    let served = served_out s.roster s.cells.now c.args.origin c.args.slot c.args.receiver (search rules) (search rules) in
    search rules

pub returns : goal.returns
returns c =
    let s = c.args.self.now in
    let all = all_of _ _ _ _ (handed_from s.roster (row_in s c.args.origin c.args.slot) c.args.receiver) s.roster.size.n c.all.result c.all.ensures.runs (λ q e. search (rules, ranges)) (search rules) in
    search rules
