use Rattle.std.proofs.Common.{◌≡◌, sym, ◌∙◌, subst, arith}
use Rattle.roster.specs.Votes.{by_seat}
use Rattle.settling.specs.Leads.{Leads}
use Rattle.settling.specs.Rules.{tally}
use Rattle.settling.proofs.Tally.{tally_at, tally_leads}
use Rattle.settling.proofs.row.Row.tally.Goals as goal

pub returns : goal.returns
returns c =
    let n = c.args.self.now.size.n in
    let row = by_seat c.args.self.now.settled in
    let value : c.loop-settled.lead ≡ tally n row = c.loop-settled.invariant ∙ tally_at n row c.loop-settled.settled-index (omega arith) in
    record { value = value; leads = subst (Leads n row) (sym value) (tally_leads n row) }
