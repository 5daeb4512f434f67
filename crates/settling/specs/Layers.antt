-- The meaning of a reduction, by those of the carrier and the agreement that it stands on. Assumes nothing.
use Rattle.std.specs.Prelude.{ℕ, ◌-◌, Bool, true, false, cond, not, ◌&&◌, ◌||◌, List, is_some, Some, None, Option, ◌==◌, nat_le, slice_index_or, slice_set}
use Rattle.roster.specs.Counting.{all}
use Rattle.roster.specs.Rosters.{same_roster, sound}
use Rattle.roster.specs.declared.decision.Decision.{Decision}
use Rattle.roster.specs.declared.denial.Denial.{Denial}
use Rattle.roster.specs.declared.roster.Roster.{Roster}
use Rattle.carrier.specs.Views.{View as Carried, holds_denial}
use Rattle.agreement.specs.Views.{View, decision_denial}
use Rattle.settling.specs.declared.record.Record.{Record}
use Rattle.settling.specs.declared.record.Due.{Due}
use Rattle.settling.specs.Rules.{settled, due}

-- a seat that has done nothing
abbrev pub blank : Record
blank = record { code = None; flagged = false; voted = false; decided = None }

-- a flag or a bit as it is put
abbrev pub as_code : Bool → ℕ
as_code b = cond b 1 0

-- a seat after each thing that it does
module _ (r : Record) where
  abbrev pub with_code : ℕ → Record
  with_code v = record { code = Some v; flagged = r.flagged; voted = r.voted; decided = r.decided }

  abbrev pub with_flag : Record
  with_flag = record { code = r.code; flagged = true; voted = r.voted; decided = r.decided }

  abbrev pub with_vote : Record
  with_vote = record { code = r.code; flagged = r.flagged; voted = true; decided = r.decided }

  abbrev pub with_decision : Decision → Record
  with_decision d = record { code = r.code; flagged = r.flagged; voted = r.voted; decided = Some d }

-- a reduction by its parts: what it stands on, its largest code, whether it was made of untouched parts, and its table
pub record Layer : Type 0 where
  pub carrier : Carried
  pub below : View
  pub largest : ℕ
  pub made : Bool
  pub touched : Bool
  pub seats : List Record

-- what a question answers, where it is not denied
abbrev pub told : {A : Type 0} → Option Denial → Option A → Option A
told None x = x
told (Some e) x = None

module _ (l : Layer) where
  abbrev pub roster_of : Roster
  roster_of = l.carrier.fixed.roster

  abbrev pub size_n : ℕ
  size_n = roster_of.size.n

  abbrev pub size_t : ℕ
  size_t = roster_of.size.t

  -- the parts fit each other
  abbrev pub fits : Bool
  fits =
      l.carrier.fixed.matched
      && (l.below.fixed.matched
      && (l.below.fixed.plain
      && (l.below.fixed.largest == 1
      && (same_roster roster_of l.below.fixed.roster
      && nat_le 1 l.largest))))

  abbrev pub matched : Bool
  matched = l.made && fits

  -- what a seat holds from each origin for a slot, and what it decided below
  unfoldable pub held_row : ℕ → ℕ → ℕ → Option ℕ
  held_row seat slot origin = told (holds_denial l.carrier.fixed seat origin slot) (l.carrier.held seat origin slot)

  abbrev pub decided_below : ℕ → Option Decision
  decided_below seat = told (decision_denial l.below.fixed seat) (l.below.decided seat)

  abbrev pub record_of : ℕ → Record
  record_of seat = slice_index_or l.seats (seat - 1) blank

  -- what each origin is settled as at a seat
  abbrev pub settled_at : ℕ → ℕ → Option Decision
  settled_at seat = settled size_n size_t (held_row seat 1) (held_row seat 2)

  unfoldable pub due_at : ℕ → Option Due
  due_at seat = due size_n size_t (record_of seat) (held_row seat 1) (held_row seat 2) (decided_below seat)

  -- no sound seat has anything due
  abbrev pub is_idle : ℕ → Bool
  is_idle seat = not (sound roster_of seat) || not (is_some (due_at seat))

  unfoldable pub idle : Bool
  idle = all is_idle size_n

  -- an ill-matched reduction means nothing
  abbrev pub meaning : View
  meaning = record {
    fixed = record { roster = roster_of; largest = l.largest; plain = false; matched = matched };
    untouched = not matched || (l.carrier.untouched && (l.below.untouched && not l.touched));
    still = matched && (l.carrier.still && (l.below.still && idle));
    puts = λ i. cond matched (l.carrier.puts i 1) None;
    decided = λ i. cond matched (record_of i).decided None;
  }

-- the table with one record changed
abbrev pub changed : Layer → ℕ → Record → List Record
changed l seat r = slice_set l.seats (seat - 1) r

-- the layer after a call: what never changes stays
abbrev pub after : Layer → Carried → View → Bool → List Record → Layer
after l carrier below touched seats = record { carrier = carrier; below = below; largest = l.largest; made = l.made; touched = touched; seats = seats }
