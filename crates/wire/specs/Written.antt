-- What `write` answers. Assumes nothing.
use Rattle.std.specs.Prelude.{ℕ, cond, Ok, Err, Result, nat_lt}
use Rattle.roster.specs.declared.denial.Denial.{Denial}
use Rattle.roster.specs.declared.denial.Denial.TheVariants.{OutOfRange, ShortBuffer}
use Rattle.wire.specs.declared.letter.Letter.{Letter}
use Rattle.wire.specs.Letters.{proper}

-- the answer for a letter and a buffer of this length
abbrev pub written : Letter → ℕ → Result (Unit {0}) Denial
written l room = cond (proper l) (cond (nat_lt room 23) (Err ShortBuffer) (Ok tt)) (Err OutOfRange)
