use Rattle.std.proofs.Common.{◌-◌, None, arith, rules}
use Rattle.roster.proofs.Seating.{made_at}
use Rattle.settling.specs.Rules.{settled}
use Rattle.settling.proofs.holdings.Holdings.settle.Goals as goal

pub returns-clause-settled : goal.returns-clause-settled
unfolding settled
returns-clause-settled c j lo hi =
    let made = made_at _ _ c.from_fn.result (search rules) 0 10 c.from_fn.ensures.items.each (j - 1) None (omega arith) (omega (arith, c.args.self.now.size.few)) in
    search (rules, made)
