-- What is printed where a line is none of a scenario. Assumes nothing.
use Rattle.std.specs.Prelude.{ℕ, List, ◌++◌, codes}
use Rattle.scenario.specs.declared.command.Command.{Command}
use Rattle.scenario.specs.declared.command.Command.TheVariants.{Carrier as carrier, Roster as roster, Put as put, Move as move, Holds as holds, Still as still, Settle as settle}
use Rattle.scenario.specs.declared.line.NoLine.{NoLine}
use Rattle.scenario.specs.declared.line.NoLine.TheVariants.{Unknown, Wrong, Memory}

-- how a line with the command is written
abbrev pub usage : Command → List ℕ
usage carrier = codes "`carrier letters` or `carrier board`"
usage roster = codes "`roster N T SET`"
usage put = codes "`put SEAT SLOT CODE`"
usage move = codes "`move ADDRESS KIND FROM TO LETTER ORIGIN SLOT CODE`"
usage holds = codes "`holds SEAT ORIGIN SLOT`"
usage still = codes "`still`"
usage settle = codes "`settle`"

-- what is said of its numbers
abbrev pub remark : Command → List ℕ
remark carrier = codes ""
remark roster = codes ", numbers decimal and below 2^64"
remark put = codes ", numbers decimal and below 2^64"
remark move = codes ", numbers decimal and below 2^64"
remark holds = codes ", numbers decimal and below 2^64"
remark still = codes ", numbers decimal and below 2^64"
remark settle = codes ", numbers decimal and below 2^64"

abbrev pub expected : NoLine → List ℕ
expected Unknown = codes "expected `carrier`, `roster`, `put`, `move`, `holds`, `still` or `settle`"
expected (Wrong c) = codes "expected " ++ usage c ++ remark c
expected Memory = codes "there is no memory to read it"
