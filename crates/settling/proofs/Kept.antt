-- What every call of a reduction keeps. Assumes nothing.
use Rattle.std.proofs.Common.{◌≡◌, ℕ, ◌≤◌, true, is_some, Some, Option}
use Rattle.roster.specs.Quorums.{one_sound, sound_rest}
use Rattle.roster.specs.Rosters.{sound}
use Rattle.roster.specs.Votes.{votes, others}
use Rattle.roster.specs.declared.decision.Decision.{Decision}
use Rattle.roster.specs.declared.decision.Decision.TheVariants.{Nothing, Code}
use Rattle.agreement.specs.Laws.{Differ}
use Rattle.settling.specs.Layers.{Layer, held_row, record_of, roster_of, settled_at, size_n, size_t}
use Rattle.settling.specs.Rules.{support}
use Rattle.settling.proofs.Tally.{StandsOut}

-- what the seats put
abbrev pub puts_of : Layer → ℕ → Option ℕ
puts_of l i = l.carrier.puts i 1

module _ (l : Layer) (p : ℕ) where
  -- why a seat's flag is what it is
  pub data Flagged (f : ℕ) : Type 0 where
    flagged_one : (v : ℕ) → puts_of l p ≡ Some v → f ≡ 1 → one_sound (size_t l) ≤ votes (size_n l) (held_row l p 1) v → Flagged f
    flagged_zero : (v : ℕ) → puts_of l p ≡ Some v → f ≡ 0 → one_sound (size_t l) ≤ others (size_n l) (held_row l p 1) v → Flagged f

  -- why its bit is what it is
  pub data Voted (x : ℕ) : Type 0 where
    voted_one : x ≡ 1 → StandsOut (size_n l) (size_t l) (settled_at l p) → Voted x
    voted_zero : x ≡ 0 → Differ (roster_of l) (puts_of l) → Voted x

  -- why it decided so
  pub data Decided (d : Decision) : Type 0 where
    decided_nothing : d ≡ Nothing → l.below.decided p ≡ Some (Code 0) → Decided d
    decided_code : (v : ℕ) → d ≡ Code v → l.below.decided p ≡ Some (Code 1) → sound_rest (size_n l) (size_t l) ≤ support (size_n l) (settled_at l p) v → Decided d

  pub record Seat : Type 0 where
    -- its record is what the parts below say that it put
    pub code : (record_of l p).code ≡ puts_of l p
    pub flagged : (record_of l p).flagged ≡ is_some (l.carrier.puts p 2)
    pub voted : (record_of l p).voted ≡ is_some (l.below.puts p)
    pub flag : (f : ℕ) → l.carrier.puts p 2 ≡ Some f → Flagged f
    pub vote : (x : ℕ) → l.below.puts p ≡ Some x → Voted x
    pub decision : (d : Decision) → (record_of l p).decided ≡ Some d → Decided d

pub record Kept (l : Layer) : Type 0 where
  pub seats : (p : ℕ) → sound (roster_of l) p ≡ true → Seat l p
  pub within : (i c : ℕ) → puts_of l i ≡ Some c → c ≤ l.largest
