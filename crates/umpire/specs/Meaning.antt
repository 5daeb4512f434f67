-- What an umpire means as an agreement. Assumes nothing.
use Rattle.std.specs.Prelude.{ℕ, Bool, cond, not, ◌&&◌, List, is_some, None, Option, ◌==◌}
use Rattle.agreement.specs.Views.{View}
use Rattle.roster.specs.Counting.{count}
use Rattle.roster.specs.declared.decision.Decision.{Decision}
use Rattle.roster.specs.declared.roster.Roster.{Roster}
use Rattle.roster.specs.Rosters.{sound}
use Rattle.roster.specs.Votes.{by_seat}
use Rattle.umpire.specs.Calls.{has_choice}
use Rattle.umpire.specs.declared.umpire.Umpire.{Umpire}

-- a sound seat of a matched umpire: what it put and was given counts
abbrev pub seated : Roster → ℕ → ℕ → Bool
seated r largest i = has_choice largest && sound r i

-- a sound seat was not given the ruling that there is
abbrev pub owed : Roster → Option Decision → List (Option Decision) → ℕ → Bool
owed r ruling given i = is_some ruling && (sound r i && not (is_some (by_seat given i)))

abbrev pub meaning : Roster → ℕ → List (Option ℕ) → Option Decision → List (Option Decision) → Bool → View
meaning r largest puts ruling given touched = record {
  fixed = record { roster = r; largest = largest; plain = (largest == 1); matched = has_choice largest };
  untouched = not (has_choice largest && touched);
  still = has_choice largest && (count (owed r ruling given) r.size.n == 0);
  -- a faulty seat's put is a stray act
  puts = λ i. cond (seated r largest i) (by_seat puts i) None;
  decided = λ i. cond (seated r largest i) (by_seat given i) None;
}

abbrev pub umpire_view : Umpire → View
umpire_view u = meaning u.roster u.largest u.puts u.ruling u.given u.touched
