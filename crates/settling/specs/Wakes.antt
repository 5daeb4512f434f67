-- When a wake is denied. Assumes nothing.
use Rattle.std.specs.Prelude.{ℕ, Some, None, Option, ◌==◌}
use Rattle.roster.specs.Checks.{check}
use Rattle.roster.specs.Counting.{is_seat}
use Rattle.roster.specs.Rosters.{sound}
use Rattle.roster.specs.declared.denial.Denial.{Denial}
use Rattle.roster.specs.declared.denial.Denial.TheVariants.{IllMatched, NoSuchAddress, OutOfRange, FaultySeat, NothingDue}
use Rattle.roster.specs.declared.moves.Move.{Move}
use Rattle.carrier.specs.Views.{put_denial as carrier_put_denial}
use Rattle.agreement.specs.Views.{put_denial}
use Rattle.settling.specs.declared.record.Due.{Due}
use Rattle.settling.specs.declared.record.Due.TheVariants.{Flag, Vote, Decide}
use Rattle.settling.specs.Layers.{Layer, as_code, due_at, matched, roster_of, size_n}

module _ (l : Layer) (seat : ℕ) where
  -- an act that is due is denied only if the part denies it that it goes to, which after any calls on a fresh reduction it never does
  abbrev pub act_denial : Due → Option Denial
  act_denial (Flag f) = carrier_put_denial l.carrier seat 2
  act_denial (Vote x) = put_denial l.below seat (as_code x)
  act_denial (Decide d) = None

  abbrev pub due_denial : Option Due → Option Denial
  due_denial None = Some NothingDue
  due_denial (Some x) = act_denial x

-- kind 3 wakes a sound seat that has something due
abbrev pub wake_denial : Layer → Move → Option Denial
wake_denial l by =
    check (matched l) IllMatched
    (check (by.kind == 3) NoSuchAddress
    (check (is_seat (size_n l) by.to) OutOfRange
    (check (sound (roster_of l) by.to) FaultySeat
    (due_denial l by.to (due_at l by.to)))))
