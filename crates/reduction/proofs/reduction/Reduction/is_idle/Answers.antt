use Rattle.std.proofs.Common.{rules}
use Rattle.std.proofs.iter.runs.Sources.{ranges}
use Rattle.roster.proofs.Seating.{all_of}
use Rattle.settling.specs.Layers.{idle, is_idle, size_n}
use Rattle.reduction.specs.Parts.{layer_of}
use Rattle.reduction.proofs.reduction.Reduction.is_idle.Goals as goal

pub returns : goal.returns
unfolding idle
returns g c =
    let l = layer_of g.C.Carrier g.B.Agreement c.args.self.now in
    all_of _ _ _ _ (is_idle l) (size_n l) c.all.result c.all.ensures.runs (λ q e. search (rules, ranges)) (search rules)
