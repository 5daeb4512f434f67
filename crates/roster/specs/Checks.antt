-- The checks of a call, in their order, and its answer. Assumes nothing.
use Rattle.std.specs.Prelude.{Bool, cond, Some, None, Ok, Err, Option, Result}
use Rattle.roster.specs.declared.denial.Denial.{Denial}

-- denied by e unless the test is passed, else by what comes after it
abbrev pub check : Bool → Denial → Option Denial → Option Denial
check passed e rest = cond passed rest (Some e)

-- the refusal, or what is answered where there is none
abbrev pub answer : {A : Type 0} → Option Denial → A → Result A Denial
answer None a = Ok a
answer (Some e) a = Err e
