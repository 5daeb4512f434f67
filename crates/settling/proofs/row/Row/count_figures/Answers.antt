use Rattle.std.proofs.Common.{◌≡◌, take, ◌∙◌, rules}
use Rattle.std.specs.Prelude.{count_by}
use Rattle.std.proofs.iter.runs.Made.{chains}
use Rattle.roster.proofs.Voting.{passing_list}
use Rattle.settling.specs.Rules.{is_figure}
use Rattle.settling.proofs.row.Row.count_figures.Goals as goal

pub returns : goal.returns
returns c =
    let counted : c.count.result ≡ count_by (is_figure) (take c.args.self.now.size.n c.args.self.now.settled) = search (rules, chains) in
    counted ∙ passing_list (is_figure) c.args.self.now.settled c.args.self.now.size.n (search rules)
