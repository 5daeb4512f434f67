-- Answers in words. Assumes nothing.
use Rattle.std.specs.Prelude.{ℕ, true, false, List, Some, None, codes, decimal}
use Rattle.roster.specs.Denials.{text_of}
use Rattle.carrier.specs.declared.run.NoRun.{NoRun}
use Rattle.carrier.specs.declared.run.NoRun.TheVariants.{Touched, Memory}
use Rattle.carrier.specs.declared.history.Answer.{Answer}
use Rattle.carrier.specs.declared.history.Answer.TheVariants.{Granted, Denied, Held, Still}

abbrev pub said : Answer → List ℕ
said Granted = codes "granted"
said (Denied d) = text_of d
said (Held None) = codes "none"
said (Held (Some code)) = decimal code
said (Still true) = codes "yes"
said (Still false) = codes "no"

-- why there was no run
abbrev pub why_not : NoRun → List ℕ
why_not Touched = codes "the carrier was used before"
why_not Memory = codes "there is no memory for the history"
