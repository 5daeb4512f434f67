-- A granted call has passed each check. Assumes nothing.
use Rattle.std.proofs.Common.{◌≡◌, ℕ, Bool, true, cond, not, ◌&&◌, leb, is_some, None, arith}
use Rattle.std.proofs.lemmas.Bool.{and_parts, and_from, le-leb}
use Rattle.carrier.specs.Views.{is_slot}
use Rattle.roster.specs.Counting.{is_seat}
use Rattle.roster.specs.Rosters.{sound}
use Rattle.roster.specs.declared.denial.Denial.TheVariants.{OutOfRange, FaultySeat, PutBefore, NothingDue, HandedBefore}
use Rattle.board.specs.declared.board.Board.{Board}
use Rattle.roster.proofs.Checks.{none_of, passed, wanted_is}
use Rattle.roster.proofs.Seats.{seat_within}
use Rattle.board.specs.Places.{is_place, is_held_place, writing, holding}
use Rattle.board.specs.Rules.{has, write_denial, hand_denial}

-- a seat of the board is one of ten
seat_wider : (b : Board) (i : ℕ) → is_seat b.roster.size.n i ≡ true → is_seat 10 i ≡ true
seat_wider b i e =
    let range = seat_within b.roster.size.n i e in
    and_from (leb 1 i) (leb i 10) (le-leb 1 i range.0) (le-leb i 10 (omega (arith, b.roster.size.few)))

place_of : (b : Board) (seat slot : ℕ) → has b seat slot ≡ true → is_place seat slot ≡ true
place_of b seat slot e =
    let parts = and_parts (is_seat b.roster.size.n seat) (is_slot slot) e in
    and_from (is_seat 10 seat) (is_slot slot) (seat_wider b seat parts.0) parts.1

pub record MayWrite (b : Board) (wanted : Bool) (seat slot : ℕ) : Type 0 where
  pub there : is_place seat slot ≡ true
  pub kind : sound b.roster seat ≡ wanted
  pub free : writing b.written seat slot ≡ None

pub may_write : (b : Board) (wanted : Bool) (seat slot : ℕ) → write_denial b wanted seat slot ≡ None → MayWrite b wanted seat slot
may_write b wanted seat slot e =
    let x = passed (has b seat slot) OutOfRange _ e in
    let y = passed (cond wanted (sound b.roster seat) (not (sound b.roster seat))) FaultySeat _ x.1 in
    let z = passed (not (is_some (writing b.written seat slot))) PutBefore _ y.1 in
    record {
      there = place_of b seat slot x.0;
      kind = wanted_is wanted (sound b.roster seat) y.0;
      free = none_of (writing b.written seat slot) z.0;
    }

pub record MayHand (b : Board) (from to slot : ℕ) : Type 0 where
  pub there : is_held_place to from slot ≡ true
  pub free : holding b.held to from slot ≡ None

pub may_hand : (b : Board) (from to slot : ℕ) → hand_denial b from to slot ≡ None → MayHand b from to slot
may_hand b from to slot e =
    let x = passed (has b from slot && is_seat b.roster.size.n to) OutOfRange _ e in
    let y = passed (sound b.roster to) FaultySeat _ x.1 in
    let z = passed (is_some (writing b.written from slot)) NothingDue _ y.1 in
    let w = passed (not (is_some (holding b.held to from slot))) HandedBefore _ z.1 in
    let parts = and_parts (has b from slot) (is_seat b.roster.size.n to) x.0 in
    record {
      there = and_from (is_seat 10 to) (is_place from slot) (seat_wider b to parts.1) (place_of b from slot parts.0);
      free = none_of (holding b.held to from slot) w.0;
    }
