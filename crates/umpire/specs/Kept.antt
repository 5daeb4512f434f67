-- What every call on an umpire keeps. Assumes nothing.
use Rattle.std.specs.Prelude.{◌≡◌, ℕ, ◌<◌, ◌≤◌, true, List, Some, None, Option, ◌≢◌}
use Rattle.agreement.specs.Laws.{Differ}
use Rattle.roster.specs.declared.decision.Decision.{Decision}
use Rattle.roster.specs.declared.decision.Decision.TheVariants.{Nothing, Code}
use Rattle.roster.specs.declared.roster.Roster.{Roster}
use Rattle.roster.specs.Quorums.{one_sound, all_but_faulty}
use Rattle.roster.specs.Votes.{by_seat, said, votes}
use Rattle.umpire.specs.Calls.{has_choice}
use Rattle.umpire.specs.declared.umpire.Umpire.{Umpire}

module _ (r : Roster) (puts : ℕ → Option ℕ) where
  -- so many put a code that one of them is sound, or not so many
  abbrev pub Many : ℕ → Type 0
  Many v = one_sound r.size.t ≤ votes r.size.n puts v

  abbrev pub Few : ℕ → Type 0
  Few v = votes r.size.n puts v < one_sound r.size.t

  -- only the faulty may be missing, or others are too
  abbrev pub Enough : Type 0
  Enough = all_but_faulty r.size.n r.size.t ≤ said r.size.n puts

  abbrev pub Missing : Type 0
  Missing = said r.size.n puts < all_but_faulty r.size.n r.size.t

-- why there is the ruling that there is, from what all seats have put
pub record Stands (r : Roster) (largest : ℕ) (puts : ℕ → Option ℕ) (ruling : Option Decision) : Type 0 where
  pub few_votes : ruling ≡ None → (v : ℕ) → Few r puts v
  pub missing : ruling ≡ None → Missing r puts
  pub many_votes : (v : ℕ) → ruling ≡ Some (Code v) → Many r puts v
  pub differ : ruling ≡ Some Nothing → Differ r puts
  pub plain : ruling ≡ Some Nothing → largest ≢ 1
  pub within : (i v : ℕ) → puts i ≡ Some v → v ≤ largest

-- what a seat was given is the ruling
abbrev pub Handed : Option Decision → List (Option Decision) → Type 0
Handed ruling given = (i : ℕ) (d : Decision) → by_seat given i ≡ Some d → ruling ≡ Some d

-- of an ill-matched umpire nothing is asked
abbrev pub Holds : Roster → ℕ → List (Option ℕ) → Option Decision → List (Option Decision) → Type 0
Holds r largest puts ruling given =
    has_choice largest ≡ true → Stands r largest (by_seat puts) ruling × Handed ruling given

abbrev pub Kept : Umpire → Type 0
Kept u = Holds u.roster u.largest u.puts u.ruling u.given
