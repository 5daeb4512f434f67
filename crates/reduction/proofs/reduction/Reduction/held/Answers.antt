use Rattle.std.proofs.Common.{rules}
use Rattle.settling.specs.Layers.{held_row}
use Rattle.reduction.proofs.reduction.Reduction.held.Goals as goal

pub returns : goal.returns
unfolding held_row
returns g c = search rules
