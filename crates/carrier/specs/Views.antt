-- The meaning of a carrier, and what its calls do to it. Assumes nothing.
use Rattle.std.specs.Prelude.{◌≡◌, ℕ, Bool, false, cond, not, ◌&&◌, is_some, Some, None, Option, ◌==◌, nat_le}
use Rattle.roster.specs.Checks.{check}
use Rattle.roster.specs.Counting.{is_seat}
use Rattle.roster.specs.declared.denial.Denial.{Denial}
use Rattle.roster.specs.declared.denial.Denial.TheVariants.{IllMatched, OutOfRange, FaultySeat, PutBefore}
use Rattle.roster.specs.declared.roster.Roster.{Roster}
use Rattle.roster.specs.Rosters.{sound}

-- what no call changes
pub record Fixed : Type 0 where
  pub roster : Roster
  pub matched : Bool

pub record View : Type 0 where
  pub fixed : Fixed
  pub untouched : Bool
  pub still : Bool
  -- what a sound seat put for a slot
  pub puts : ℕ → ℕ → Option ℕ
  -- what a sound seat holds from an origin and slot
  pub held : ℕ → ℕ → ℕ → Option ℕ

abbrev pub is_slot : ℕ → Bool
is_slot s = nat_le 1 s && nat_le s 2

abbrev pub put_denial : View → ℕ → ℕ → Option Denial
put_denial v seat slot =
    check v.fixed.matched IllMatched
    (check (is_seat v.fixed.roster.size.n seat && is_slot slot) OutOfRange
    (check (sound v.fixed.roster seat) FaultySeat
    (check (not (is_some (v.puts seat slot))) PutBefore
    None)))

abbrev pub holds_denial : Fixed → ℕ → ℕ → ℕ → Option Denial
holds_denial f seat origin slot =
    check f.matched IllMatched
    (check (is_seat f.roster.size.n seat && (is_seat f.roster.size.n origin && is_slot slot)) OutOfRange
    (check (sound f.roster seat) FaultySeat
    None))

-- a granted put records the code and changes nothing else that its user may go by
pub record Put (v : View) (seat slot code : ℕ) (w : View) : Type 0 where
  pub fixed : w.fixed ≡ v.fixed
  pub touched : w.untouched ≡ false
  pub puts : (i s : ℕ) → w.puts i s ≡ cond (i == seat && s == slot) (Some code) (v.puts i s)
  pub held : (i o s : ℕ) → w.held i o s ≡ v.held i o s

-- a granted move leaves puts and holdings, and may add holdings
pub record Moved (v w : View) : Type 0 where
  pub fixed : w.fixed ≡ v.fixed
  pub touched : w.untouched ≡ false
  pub puts : (i s : ℕ) → w.puts i s ≡ v.puts i s
  pub held : (i o s c : ℕ) → v.held i o s ≡ Some c → w.held i o s ≡ Some c
