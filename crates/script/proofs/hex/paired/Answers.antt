use Rattle.std.proofs.Common.{◌/◌, length, rules, below_more}
use Rattle.script.proofs.Pairs.{pair_at}
use Rattle.script.proofs.hex.paired.Goals as goal

pub loop-high-preserved : goal.loop-high-preserved
loop-high-preserved c =
    let pair = pair_at (length c.args.digits.now / 2) c.args.digits.now c.loop-high.high-index (search rules) (search rules) in
    (search rules, below_more _ _ (search rules) (search rules))
