-- What may be written on a board, what may be handed over, and what each then changes. Assumes nothing.
use Rattle.std.specs.Prelude.{◌≡◌, ℕ, Bool, true, false, cond, not, ◌&&◌, is_ok, is_some, Some, None, Option, Result, ◌==◌, slice_set}
use Rattle.carrier.specs.Views.{is_slot}
use Rattle.roster.specs.Checks.{answer, check}
use Rattle.roster.specs.Counting.{is_seat}
use Rattle.roster.specs.declared.denial.Denial.{Denial}
use Rattle.roster.specs.declared.denial.Denial.TheVariants.{NoSuchAddress, OutOfRange, FaultySeat, PutBefore, NothingDue, HandedBefore}
use Rattle.roster.specs.declared.moves.Move.{Move}
use Rattle.roster.specs.Rosters.{sound}
use Rattle.board.specs.declared.board.Board.{Board}
use Rattle.board.specs.Places.{place, held_place, writing, holding}

module _ (b : Board) where
  abbrev pub has : ℕ → ℕ → Bool
  has seat slot = is_seat b.roster.size.n seat && is_slot slot

  -- a writing by a seat that has to be sound, or has to be faulty
  abbrev pub write_denial : Bool → ℕ → ℕ → Option Denial
  write_denial as_sound seat slot =
      check (has seat slot) OutOfRange
      (check (cond as_sound (sound b.roster seat) (not (sound b.roster seat))) FaultySeat
      (check (not (is_some (writing b.written seat slot))) PutBefore
      None))

  -- what one seat wrote, handed to a sound one
  abbrev pub hand_denial : ℕ → ℕ → ℕ → Option Denial
  hand_denial from to slot =
      check (has from slot && is_seat b.roster.size.n to) OutOfRange
      (check (sound b.roster to) FaultySeat
      (check (is_some (writing b.written from slot)) NothingDue
      (check (not (is_some (holding b.held to from slot))) HandedBefore
      None)))

  -- a move is a faulty seat's writing, or something handed over
  abbrev pub step_denial : Move → Option Denial
  step_denial by =
      cond (by.kind == 1) (write_denial false by.from by.slot)
      (cond (by.kind == 2) (hand_denial by.from by.to by.slot)
      (Some NoSuchAddress))

-- d is b with a code written, and nothing else changed
pub record Written (b : Board) (seat slot code : ℕ) (d : Board) : Type 0 where
  pub roster : d.roster ≡ b.roster
  pub touched : d.touched ≡ true
  pub written : d.written ≡ slice_set b.written (place seat slot) (Some code)
  pub held : d.held ≡ b.held

-- d is b with what was written handed over, and nothing else changed
pub record Handed (b : Board) (from to slot : ℕ) (d : Board) : Type 0 where
  pub roster : d.roster ≡ b.roster
  pub touched : d.touched ≡ true
  pub written : d.written ≡ b.written
  pub held : d.held ≡ slice_set b.held (held_place to from slot) (writing b.written from slot)

-- what a move answers and does
pub record Steps (b : Board) (by : Move) (r : Result (Unit {0}) Denial) (w : Board) : Type 0 where
  pub value : r ≡ answer (step_denial b by) tt
  pub stray : is_ok r ≡ true → by.kind ≡ 1 → Written b by.from by.slot by.code w
  pub handed : is_ok r ≡ true → by.kind ≡ 2 → Handed b by.from by.to by.slot w
