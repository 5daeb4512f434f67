-- Which rosters there are, and which seats of one are sound. Assumes nothing.
use Rattle.std.specs.Prelude.{ℕ, ◌^◌, Bool, cond, not, ◌&&◌, Some, None, Option, ◌==◌, nat_le, nat_lt}
use Rattle.roster.specs.declared.denial.Denial.{Denial}
use Rattle.roster.specs.declared.denial.Denial.TheVariants.{RosterSize, FaultySet, OutOfRange, FaultySeat}
use Rattle.roster.specs.declared.roster.Roster.{Roster}
use Rattle.roster.specs.Checks.{check}
use Rattle.roster.specs.Counting.{count, member, is_seat}
use Rattle.roster.specs.Sizes.{sized}

-- the set names no seat above n, and at most t seats
abbrev pub bounded : ℕ → ℕ → ℕ → Bool
bounded n t set = nat_lt set (2 ^ n) && nat_le (count (member set) n) t

-- the first check that three numbers fail
abbrev pub roster_denial : ℕ → ℕ → ℕ → Option Denial
roster_denial n t set = cond (sized n t) (cond (bounded n t set) None (Some FaultySet)) (Some RosterSize)

abbrev pub sound : Roster → ℕ → Bool
sound r i = is_seat r.size.n i && not (member r.faulty i)

-- the checks of a seat that has to be sound, and then others
abbrev pub sound_denial : Roster → ℕ → Option Denial → Option Denial
sound_denial r seat rest = check (is_seat r.size.n seat) OutOfRange (check (sound r seat) FaultySeat rest)

-- rosters of the same size and with the same faulty set
abbrev pub same_roster : Roster → Roster → Bool
same_roster r s = r.size.n == s.size.n && (r.size.t == s.size.t && r.faulty == s.faulty)
