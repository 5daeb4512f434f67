use Rattle.std.proofs.Common.{◌≡◌, ◌+◌, ◌-◌, None, arith, rules}
use Rattle.roster.proofs.Seating.{made_at}
use Rattle.settling.specs.Layers.{roster_of}
use Rattle.reduction.specs.Parts.{layer_of}
use Rattle.reduction.proofs.reduction.Reduction.row.Goals as goal

pub returns : goal.returns
returns g c j lo hi =
    let l = layer_of g.C.Carrier g.B.Agreement c.args.self.now in
    let place : (j - 1) + 1 ≡ j = omega arith in
    let made = made_at _ _ c.from_fn.result (search rules) 0 10 c.from_fn.ensures.items.each (j - 1) None (omega arith) (omega (arith, (roster_of l).size.few)) in
    search (rules, made, place)
