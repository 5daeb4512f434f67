-- A reduction by the meanings of its parts, and what its calls do to it. Assumes nothing.
use Rattle.std.specs.Prelude.{◌≡◌, ℕ, ◌+◌, ◌-◌, true, is_ok, Some, Result, slice_set}
use Rattle.roster.specs.Checks.{answer}
use Rattle.roster.specs.declared.denial.Denial.{Denial}
use Rattle.roster.specs.declared.moves.Move.{Move}
use Rattle.carrier.specs.declared.carrier.Carrier.{Ghosts as CarrierGhosts}
use Rattle.carrier.specs.Views.{Put as CarrierPut}
use Rattle.agreement.specs.declared.agreement.Agreement.{Ghosts}
use Rattle.agreement.specs.Views.{Put}
use Rattle.settling.specs.declared.record.Due.{Due}
use Rattle.settling.specs.declared.record.Due.TheVariants.{Flag, Vote, Decide}
use Rattle.settling.specs.declared.record.Record.{Record}
use Rattle.settling.specs.Layers.{Layer, as_code, due_at, matched, record_of, with_decision, with_flag, with_vote}
use Rattle.settling.specs.Wakes.{wake_denial}
use Rattle.reduction.specs.declared.reduction.Reduction.{Reduction}

-- the same move for the agreement below, whose addresses begin at 2
abbrev pub below_by : Move → Move
below_by by = record { address = by.address - 2; kind = by.kind; from = by.from; to = by.to; letter = by.letter; origin = by.origin; slot = by.slot; code = by.code }

module _ {C B : Type 0} (carrier : CarrierGhosts C) (below : Ghosts B) where
  abbrev pub layer_of : Reduction C B → Layer
  layer_of s = record {
    carrier = carrier.view s.carrier;
    below = below.view s.below;
    largest = s.largest;
    made = s.made;
    touched = s.table.touched;
    seats = s.table.seats;
  }

  -- e is s with one seat's record changed
  pub record Changed (s : Reduction C B) (seat : ℕ) (to : Record) (e : Reduction C B) : Type 0 where
    pub largest : e.largest ≡ s.largest
    pub made : e.made ≡ s.made
    pub touched : e.table.touched ≡ true
    pub seats : e.table.seats ≡ slice_set s.table.seats (seat - 1) to

  -- and with a put to the carrier, or to the agreement below
  pub record PutAbove (s : Reduction C B) (seat slot code : ℕ) (to : Record) (e : Reduction C B) : Type 0 where
    pub put : CarrierPut (carrier.view s.carrier) seat slot code (carrier.view e.carrier)
    pub same_below : e.below ≡ s.below
    pub table : Changed s seat to e

  pub record PutBelow (s : Reduction C B) (seat code : ℕ) (to : Record) (e : Reduction C B) : Type 0 where
    pub put : Put (below.view s.below) seat code (below.view e.below)
    pub same_carrier : e.carrier ≡ s.carrier
    pub table : Changed s seat to e

  pub record Kept (s : Reduction C B) (seat : ℕ) (to : Record) (e : Reduction C B) : Type 0 where
    pub same_carrier : e.carrier ≡ s.carrier
    pub same_below : e.below ≡ s.below
    pub table : Changed s seat to e

  -- an act of a seat: that one, and nothing else
  abbrev pub Does : Reduction C B → ℕ → Due → Reduction C B → Type 0
  Does s seat (Flag f) e = PutAbove s seat 2 (as_code f) (with_flag (record_of (layer_of s) seat)) e
  Does s seat (Vote x) e = PutBelow s seat (as_code x) (with_vote (record_of (layer_of s) seat)) e
  Does s seat (Decide d) e = Kept s seat (with_decision (record_of (layer_of s) seat) d) e

  -- what a move does, by its address
  pub record Steps (s : Reduction C B) (by : Move) (r : Result (Unit {0}) Denial) (e : Reduction C B) : Type 0 where
    -- 0: a wake does the first act that is due
    pub woken : by.address ≡ 0 → r ≡ answer (wake_denial (layer_of s) by) tt
    pub does : by.address ≡ 0 → (x : Due) → due_at (layer_of s) by.to ≡ Some x → is_ok r ≡ true → Does s by.to x e
    -- 1: the carrier's own move
    pub carried : by.address ≡ 1 → matched (layer_of s) ≡ true → carrier.steps s.carrier by r e.carrier × (e.below ≡ s.below) × (e.table ≡ s.table)
    -- from 2 on: the move of the agreement below
    pub lowered : (a : ℕ) → by.address ≡ a + 2 → matched (layer_of s) ≡ true → below.steps s.below (below_by by) r e.below × (e.carrier ≡ s.carrier) × (e.table ≡ s.table)
