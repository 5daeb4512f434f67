-- The meaning of an agreement, and what its calls do to it. Assumes nothing.
use Rattle.std.specs.Prelude.{◌≡◌, ℕ, Bool, false, cond, not, is_some, Some, None, Option, ◌==◌, nat_le}
use Rattle.roster.specs.Checks.{check}
use Rattle.roster.specs.Counting.{is_seat}
use Rattle.roster.specs.declared.decision.Decision.{Decision}
use Rattle.roster.specs.declared.denial.Denial.{Denial}
use Rattle.roster.specs.declared.denial.Denial.TheVariants.{IllMatched, OutOfRange, FaultySeat, CodeTooLarge, PutBefore}
use Rattle.roster.specs.declared.roster.Roster.{Roster}
use Rattle.roster.specs.Rosters.{sound}

-- what no call changes
pub record Fixed : Type 0 where
  pub roster : Roster
  -- the largest code that may be put
  pub largest : ℕ
  -- whether Nothing is never decided
  pub plain : Bool
  pub matched : Bool

pub record View : Type 0 where
  pub fixed : Fixed
  pub untouched : Bool
  pub still : Bool
  -- what a sound seat put
  pub puts : ℕ → Option ℕ
  -- what a sound seat decided, once it has
  pub decided : ℕ → Option Decision

-- the seat of a put, a wake or a question: the checks in their order
abbrev pub seat_denial : Fixed → ℕ → Option Denial → Option Denial
seat_denial f seat rest =
    check f.matched IllMatched
    (check (is_seat f.roster.size.n seat) OutOfRange
    (check (sound f.roster seat) FaultySeat
    rest))

abbrev pub put_denial : View → ℕ → ℕ → Option Denial
put_denial v seat code =
    seat_denial v.fixed seat
    (check (nat_le code v.fixed.largest) CodeTooLarge
    (check (not (is_some (v.puts seat))) PutBefore
    None))

abbrev pub decision_denial : Fixed → ℕ → Option Denial
decision_denial f seat = seat_denial f seat None

-- a granted put records the code and changes nothing else that its user may go by
pub record Put (v : View) (seat code : ℕ) (w : View) : Type 0 where
  pub fixed : w.fixed ≡ v.fixed
  pub touched : w.untouched ≡ false
  pub puts : (i : ℕ) → w.puts i ≡ cond (i == seat) (Some code) (v.puts i)
  pub decided : (i : ℕ) → w.decided i ≡ v.decided i

-- a granted move leaves puts and decisions, and may add decisions
pub record Moved (v w : View) : Type 0 where
  pub fixed : w.fixed ≡ v.fixed
  pub touched : w.untouched ≡ false
  pub puts : (i : ℕ) → w.puts i ≡ v.puts i
  pub decided : (i : ℕ) (d : Decision) → v.decided i ≡ Some d → w.decided i ≡ Some d
