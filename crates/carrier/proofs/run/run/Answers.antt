use Rattle.std.proofs.Common.{◌≡◌, [], ◌∷◌, ◌++◌, Some, vec_items, sym, subst, rules}
use Rattle.carrier.specs.Histories.{Chosen, Ran}
use Rattle.carrier.proofs.Kept.{Kept, kept_next, ran_next, chosen_next}
use Rattle.carrier.proofs.run.run.Goals as goal

pub loop-k-preserved : goal.loop-k-preserved
loop-k-preserved g c =
    let view = g.C.Carrier.view in
    let start = view c.args.carrier in
    let was = view c.loop-k.carrier in
    let next = view c.perform-entry.new.carrier in
    let done = c.perform-entry.ensures in
    let inv = c.loop-k.invariant in
    let ok = done.keeps inv.2 in
    let chosen = subst (λ a. g.P.Plan.chooses c.loop-k.plan (vec_items c.loop-k.history) (Some a) c.next.new.self) (sym done.act) (subst (λ h. g.P.Plan.chooses c.loop-k.plan h (Some c.in-Some.act) c.next.new.self) c.as_slice.ensures.value c.in-Some.ensures) in
    let pushed : vec_items c.push.new.self ≡ vec_items c.loop-k.history ++ (c.perform-entry.result ∷ []) = search rules in (
      subst (λ h. Kept start.fixed.roster h next) (sym pushed) (kept_next _ _ was next c.perform-entry.result inv.0 done.does (g.C.Carrier.lawful _ ok)),
      subst (λ h. Ran start h next) (sym pushed) (ran_next start _ was _ next inv.1 done.does),
      ok,
      subst (λ h. Chosen g.P.Plan.chooses c.args.plan.now [] h c.next.new.self) (sym pushed) (chosen_next g.P.Plan.chooses _ _ _ c.perform-entry.result _ inv.3 chosen),
      search rules,
    )
