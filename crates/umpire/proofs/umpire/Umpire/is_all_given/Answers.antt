use Rattle.std.proofs.Common.{not, ◌∙◌, rules}
use Rattle.std.proofs.iter.runs.Sources.{ranges}
use Rattle.roster.proofs.Seating.{all_of}
use Rattle.roster.proofs.Seats.{none_counted}
use Rattle.umpire.specs.Meaning.{owed}
use Rattle.umpire.proofs.umpire.Umpire.is_all_given.Goals as goal

pub returns : goal.returns
returns c =
    let u = c.args.self.now in
    let p = owed u.roster u.ruling u.given in
    all_of _ _ _ _ (λ i. not (p i)) u.roster.size.n c.all.result c.all.ensures.runs (λ q e. search (rules, ranges)) (search rules)
    ∙ none_counted p u.roster.size.n
