use Rattle.std.proofs.Common.{◌≡◌, [], vec_items, vec_len}
use Rattle.carrier.specs.Histories.{Chosen, Ran}
use Rattle.carrier.proofs.Kept.{Kept}
use Rattle.carrier.proofs.run.run.Given as goal

abbrev pub invariant-loop-k : goal.invariant-loop-k
invariant-loop-k g l =
    let view = g.C.Carrier.view in
    Kept (view l.initial.carrier).fixed.roster (vec_items l.history) (view l.carrier)
    × Ran (view l.initial.carrier) (vec_items l.history) (view l.carrier)
    × g.C.Carrier.ok l.carrier
    × Chosen g.P.Plan.chooses l.initial.plan [] (vec_items l.history) l.plan
    × (vec_len l.history ≡ l._k)
