-- What may be put and given, and what each then changes. Assumes nothing.
use Rattle.std.specs.Prelude.{◌≡◌, ℕ, ◌-◌, Bool, true, false, cond, not, is_some, is_ok, Some, None, Option, Result, ◌==◌, nat_le, slice_set}
use Rattle.roster.specs.Checks.{answer, check}
use Rattle.roster.specs.Counting.{is_seat}
use Rattle.roster.specs.declared.denial.Denial.{Denial}
use Rattle.roster.specs.declared.denial.Denial.TheVariants.{IllMatched, NoSuchAddress, OutOfRange, FaultySeat, CodeTooLarge, PutBefore, NothingDue, HandedBefore}
use Rattle.roster.specs.declared.moves.Move.{Move}
use Rattle.roster.specs.Rosters.{sound}
use Rattle.roster.specs.Votes.{by_seat}
use Rattle.umpire.specs.declared.umpire.Umpire.{Umpire}
use Rattle.umpire.specs.Rules.{ruled}

-- there has to be something to choose from
abbrev pub has_choice : ℕ → Bool
has_choice largest = nat_le 1 largest

module _ (u : Umpire) where
  -- a put by a seat that has to be sound, or has to be faulty
  abbrev pub note_denial : Bool → ℕ → ℕ → Option Denial
  note_denial as_sound seat code =
      check (is_seat u.roster.size.n seat) OutOfRange
      (check (cond as_sound (sound u.roster seat) (not (sound u.roster seat))) FaultySeat
      (check (nat_le code u.largest) CodeTooLarge
      (check (not (is_some (by_seat u.puts seat))) PutBefore
      None)))

  -- the ruling, given to a sound seat
  abbrev pub give_denial : ℕ → Option Denial
  give_denial to =
      check (is_seat u.roster.size.n to) OutOfRange
      (check (sound u.roster to) FaultySeat
      (check (is_some u.ruling) NothingDue
      (check (not (is_some (by_seat u.given to))) HandedBefore
      None)))

  -- a move is a faulty seat's put, or the ruling given
  abbrev pub move_denial : Move → Option Denial
  move_denial by =
      cond (by.kind == 1) (note_denial false by.from by.code)
      (cond (by.kind == 2) (give_denial by.to)
      (Some NoSuchAddress))

  -- the checks of a move in their order
  abbrev pub step_denial : Move → Option Denial
  step_denial by =
      check (has_choice u.largest) IllMatched
      (check (by.address == 0) NoSuchAddress
      (move_denial by))

-- w is u with a put noted and ruled on, and nothing else changed
pub record Noted (u : Umpire) (seat code : ℕ) (w : Umpire) : Type 0 where
  pub roster : w.roster ≡ u.roster
  pub largest : w.largest ≡ u.largest
  pub puts : w.puts ≡ slice_set u.puts (seat - 1) (Some code)
  pub ruling : w.ruling ≡ ruled u.roster.size.n u.roster.size.t (by_seat (slice_set u.puts (seat - 1) (Some code))) code u.ruling
  pub given : w.given ≡ u.given
  pub touched : w.touched ≡ true

-- w is u with the ruling given to a seat, and nothing else changed
pub record Given (u : Umpire) (to : ℕ) (w : Umpire) : Type 0 where
  pub roster : w.roster ≡ u.roster
  pub largest : w.largest ≡ u.largest
  pub puts : w.puts ≡ u.puts
  pub ruling : w.ruling ≡ u.ruling
  pub given : w.given ≡ slice_set u.given (to - 1) u.ruling
  pub touched : w.touched ≡ true

-- what a move answers and does
pub record Steps (u : Umpire) (by : Move) (r : Result (Unit {0}) Denial) (w : Umpire) : Type 0 where
  pub value : r ≡ answer (step_denial u by) tt
  pub stray : is_ok r ≡ true → by.kind ≡ 1 → Noted u by.from by.code w
  pub handed : is_ok r ≡ true → by.kind ≡ 2 → Given u by.to w
