-- Why a line is no job, and what is printed there. Assumes nothing.
use Rattle.std.specs.Prelude.{ℕ, List, codes}
use Rattle.jobs.specs.declared.job.NoJob.{NoJob}
use Rattle.jobs.specs.declared.job.NoJob.TheVariants.{Unknown, Numbers, Hex, Memory}
use Rattle.script.specs.declared.hex.NoHex.{NoHex}
use Rattle.script.specs.declared.hex.NoHex.TheVariants.{Digit, Odd, Memory as no_memory}

-- of a line whose second word is read as hex
abbrev pub no_hex : NoHex → NoJob
no_hex Digit = Hex
no_hex Odd = Hex
no_hex no_memory = Memory

abbrev pub expected : NoJob → List ℕ
expected Unknown = codes "expected `write KIND ORIGIN SLOT CODE` or `read HEX`"
expected Numbers = codes "expected `write KIND ORIGIN SLOT CODE`, four decimal numbers below 2^64"
expected Hex = codes "expected `read HEX`, one word of an even number of hex digits"
expected Memory = codes "there is no memory to read it"
