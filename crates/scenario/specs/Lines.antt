-- What the lines of a scenario ask for, by their words. Assumes nothing.
use Rattle.std.specs.Prelude.{◌≡◌, ℕ, ◌⊎◌, List, [], ◌∷◌, length, Some, None, Ok, Err, codes, Option, Result, ◌≢◌}
use Rattle.carrier.specs.declared.history.Act.TheVariants.{Put as put_act, Move as move_act, Holds as holds_act, Still as still_act}
use Rattle.scenario.specs.declared.command.Command.{Command}
use Rattle.scenario.specs.declared.command.Command.TheVariants.{Carrier as carrier, Roster as roster, Put as put, Move as move, Holds as holds, Still as still, Settle as settle}
use Rattle.scenario.specs.declared.line.Kind.{Kind}
use Rattle.scenario.specs.declared.line.Kind.TheVariants.{Letters, Board}
use Rattle.scenario.specs.declared.line.Line.{Line}
use Rattle.scenario.specs.declared.line.Line.TheVariants.{Carrier as carrier_line, Roster as roster_line, Act as act_line, Settle as settle_line}
use Rattle.scenario.specs.declared.line.NoLine.{NoLine}
use Rattle.scenario.specs.declared.line.NoLine.TheVariants.{Unknown, Wrong, Memory}
use Rattle.script.specs.Numbers.{Follow}
use Rattle.script.specs.Words.{word_at, Silent, AreWords}

abbrev pub name : Command → List ℕ
name carrier = codes "carrier"
name roster = codes "roster"
name put = codes "put"
name move = codes "move"
name holds = codes "holds"
name still = codes "still"
name settle = codes "settle"

abbrev pub kind_name : Kind → List ℕ
kind_name Letters = codes "letters"
kind_name Board = codes "board"

-- the command of a line
abbrev pub command_of : Line → Command
command_of (carrier_line k) = carrier
command_of (roster_line n t faulty) = roster
command_of (act_line (put_act seat slot code)) = put
command_of (act_line (move_act by)) = move
command_of (act_line (holds_act seat origin slot)) = holds
command_of (act_line still_act) = still
command_of settle_line = settle

-- the numbers that follow it
abbrev pub numbers_of : Line → List ℕ
numbers_of (carrier_line k) = []
numbers_of (roster_line n t faulty) = n ∷ t ∷ faulty ∷ []
numbers_of (act_line (put_act seat slot code)) = seat ∷ slot ∷ code ∷ []
numbers_of (act_line (move_act by)) = by.address ∷ by.kind ∷ by.from ∷ by.to ∷ by.letter ∷ by.origin ∷ by.slot ∷ by.code ∷ []
numbers_of (act_line (holds_act seat origin slot)) = seat ∷ origin ∷ slot ∷ []
numbers_of (act_line still_act) = []
numbers_of settle_line = []

-- what follows the command: a carrier's name, or numbers
abbrev pub Rest : List (List ℕ) → Line → Type 0
Rest ws (carrier_line k) = (length ws ≡ 2) × (word_at ws 1 ≡ kind_name k)
Rest ws (roster_line n t faulty) = Follow ws (numbers_of (roster_line n t faulty))
Rest ws (act_line a) = Follow ws (numbers_of (act_line a))
Rest ws settle_line = Follow ws (numbers_of settle_line)

-- a line of these words asks for this
abbrev pub Asks : List (List ℕ) → Line → Type 0
Asks ws l = (word_at ws 0 ≡ name (command_of l)) × Rest ws l

abbrev pub Reads : List (List ℕ) → Result (Option Line) NoLine → Type 0
Reads ws (Ok None) = Silent ws
Reads ws (Ok (Some l)) = Asks ws l
Reads ws (Err Unknown) = (Silent ws → ⊥) × ((c : Command) → word_at ws 0 ≢ name c)
Reads ws (Err (Wrong c)) = (word_at ws 0 ≡ name c) × ((l : Line) → command_of l ≡ c → Rest ws l → ⊥)
Reads ws (Err Memory) = Unit {0}

-- by the line's words, unless there was no memory for them
abbrev pub Parsed : List ℕ → Result (Option Line) NoLine → Type 0
Parsed line r = (r ≡ Err Memory) ⊎ ((ws : List (List ℕ)) × AreWords line ws × Reads ws r)
