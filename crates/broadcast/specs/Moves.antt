-- Which letter a move has the receiver count, or why it is denied: the checks in their order. Assumes nothing.
use Rattle.std.specs.Prelude.{ℕ, Bool, true, cond, not, ◌&&◌, ◌||◌, List, is_some, Some, None, Ok, Err, Option, Result, ◌==◌}
use Rattle.carrier.specs.Views.{is_slot}
use Rattle.roster.specs.Counting.{is_seat}
use Rattle.roster.specs.declared.denial.Denial.{Denial}
use Rattle.roster.specs.declared.denial.Denial.TheVariants.{IllMatched, NoSuchAddress, OutOfRange, FaultySeat, NothingDue, HandedBefore}
use Rattle.roster.specs.declared.moves.Move.{Move}
use Rattle.roster.specs.declared.roster.Roster.{Roster}
use Rattle.roster.specs.Rosters.{sound}
use Rattle.broadcast.specs.declared.cell.Cell.{Cell}
use Rattle.broadcast.specs.declared.letter.Kind.{Kind}
use Rattle.broadcast.specs.declared.letter.Kind.TheVariants.{Init, Echo, Ready}
use Rattle.broadcast.specs.declared.letter.Letter.{Letter}
use Rattle.broadcast.specs.Letters.{kind_of}
use Rattle.broadcast.specs.Rows.{fits, row}
use Rattle.broadcast.specs.Rules.{sent, got}

-- refused by e unless the test is passed
abbrev pub grant : {A : Type 0} → Bool → Denial → Result A Denial → Result A Denial
grant passed e rest = cond passed rest (Err e)

-- only an INIT has to come from its origin
abbrev pub from_origin : Kind → ℕ → ℕ → Bool
from_origin Init sender origin = sender == origin
from_origin Echo sender origin = true
from_origin Ready sender origin = true

-- kind 1: a stray letter; kind 2: a letter is handed over
abbrev pub is_stray : Move → Bool
is_stray by = by.kind == 1

abbrev pub is_hand_over : Move → Bool
is_hand_over by = by.kind == 2

abbrev pub in_range : ℕ → Kind → Move → Bool
in_range n k by =
    is_seat n by.from && (is_seat n by.to && (is_seat n by.origin && (is_slot by.slot && from_origin k by.from by.origin)))

abbrev pub seats_fit : Roster → Move → Bool
seats_fit r by = sound r by.to && (not (is_stray by) || not (sound r by.from))

module _ (r : Roster) (cs : List Cell) (by : Move) where
  abbrev pub receiver : Cell
  receiver = row r.size.n cs by.origin by.slot by.to

  -- the code that the letter has: as stated in a stray one, else as sent; a faulty seat has sent none
  abbrev pub told : Kind → Option ℕ
  told k = cond (is_stray by) (Some by.code) (cond (sound r by.from) (sent k (row r.size.n cs by.origin by.slot by.from)) None)

  abbrev pub unless_counted : Kind → Option ℕ → Result Letter Denial
  unless_counted k None = Err NothingDue
  unless_counted k (Some v) = grant (not (is_some (got k by.from receiver))) HandedBefore (Ok (record { kind = k; sender = by.from; code = v }))

  abbrev pub due_of : Kind → Result Letter Denial
  due_of k =
      grant (in_range r.size.n k by) OutOfRange
      (grant (seats_fit r by) FaultySeat
      (unless_counted k (told k)))

  abbrev pub due_if : Option Kind → Result Letter Denial
  due_if None = Err OutOfRange
  due_if (Some k) = due_of k

  abbrev pub due : Result Letter Denial
  due =
      grant (fits r.size.n cs) IllMatched
      (grant (is_stray by || is_hand_over by) NoSuchAddress
      (due_if (kind_of by.letter)))
