use Rattle.std.proofs.Common.{Ok, Err, rules}
use Rattle.std.specs.declared.alloc.Global.{Global}
use Rattle.script.specs.declared.hex.NoHex.TheVariants.{Digit, Odd}
use Rattle.script.proofs.Pairs.{back}
use Rattle.script.proofs.hex.decode.Goals as goal

pub returns-then-not-all_digits-clause-back : goal.returns-then-not-all_digits-clause-back
returns-then-not-all_digits-clause-back c = back {A = Global} c.args.text.now (Err Digit) (search rules)

pub returns-then-digits-eq1-clause-back : goal.returns-then-digits-eq1-clause-back
returns-then-digits-eq1-clause-back c = back {A = Global} c.args.text.now (Err Odd) (search rules)

pub returns-clause-back : goal.returns-clause-back
returns-clause-back c = back c.args.text.now (Ok c.in_ok-paired.field-0) (search rules)
