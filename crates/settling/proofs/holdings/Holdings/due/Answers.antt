use Rattle.std.proofs.Common.{ap, rules}
use Rattle.roster.specs.declared.size.Size.{Size}
use Rattle.settling.proofs.Same.{due_decide, due_over, due_vote}
use Rattle.settling.proofs.holdings.Holdings.due.Goals as goal

pub returns-then-is_vote_due : goal.returns-then-is_vote_due
returns-then-is_vote_due c =
    let row = c.settle-row.ensures in
    due_vote _ _ c.args.seat _ _ _ c.in_ok-code.code (search rules) c.if-is_flag_due.ensures _ _ (ap (λ (z : Size). z.n) row.size) (ap (λ (z : Size). z.t) row.size) _ row.settled _ c.if-is_vote_due.ensures c.bit.ensures

pub returns-then-is_some : goal.returns-then-is_some
returns-then-is_some c =
    let row = c.settle-row.ensures in
    due_over _ _ c.args.seat _ _ _ c.in_ok-code.code (search rules) c.if-is_flag_due.ensures _ _ (ap (λ (z : Size). z.n) row.size) (ap (λ (z : Size). z.t) row.size) _ row.settled c.if-is_vote_due.ensures c.if-is_some.ensures

pub returns : goal.returns
returns c =
    let row = c.settle-row.ensures in
    due_decide _ _ c.args.seat _ _ _ c.in_ok-code.code (search rules) c.if-is_flag_due.ensures _ _ (ap (λ (z : Size). z.n) row.size) (ap (λ (z : Size). z.t) row.size) _ row.settled c.if-is_vote_due.ensures _ c.if-is_some.ensures c.decides.ensures
