-- What a put and a giving do to an umpire's meaning. Assumes nothing.
use Rattle.std.proofs.Common.{◌≡◌, ℕ, ◌-◌, ◌≤◌, Bool, true, false, List, set, is_ok, Some, Option, Result, sym, ap, ◌∙◌, inl, inr, arith}
use mathlib.Core.Path.{transport⁻¹}
use Rattle.roster.specs.Checks.{answer}
use Rattle.roster.specs.declared.denial.Denial.{Denial}
use Rattle.roster.specs.declared.decision.Decision.{Decision}
use Rattle.roster.specs.Votes.{by_seat}
use Rattle.roster.proofs.Voting.{new_or_old, seat_new, seat_old}
use Rattle.umpire.specs.Calls.{note_denial, give_denial, Noted, Given}
use Rattle.umpire.specs.declared.umpire.Umpire.{Umpire}
use Rattle.umpire.specs.Kept.{Holds, Kept}
use Rattle.umpire.specs.Rules.{ruled}
use Rattle.umpire.proofs.Granted.{MayNote, MayGive, keeps_by, may_note, may_give}
use Rattle.umpire.proofs.Standing.{ruled_stands}

module _ (u w : Umpire) (seat code : ℕ) (to : Noted u seat code w) where
  abbrev next : List (Option ℕ)
  next = set u.puts (seat - 1) (Some code)

  abbrev ruling : Option Decision
  ruling = ruled u.roster.size.n u.roster.size.t (by_seat next) code u.ruling

  held : Holds u.roster u.largest next ruling u.given → Kept w
  held h =
      transport⁻¹ (λ i. Holds (to.roster i) (to.largest i) (to.puts i) (to.ruling i) (to.given i)) h

  new_within : (wanted : Bool) → MayNote u wanted seat code → ((i v : ℕ) → by_seat u.puts i ≡ Some v → v ≤ u.largest) → (i v : ℕ) → by_seat next i ≡ Some v → v ≤ u.largest
  new_within wanted may within i v e =
      elim (new_or_old u.puts seat (Some code) i may.low (omega (arith, u.room, may.high))) [
        | inl new ↦ let f = sym new ∙ e in let same : code ≡ v = cc in omega (arith, may.fits)
        | inr old ↦ within i v (sym old ∙ e)
      ]

  pub noted_kept : (wanted : Bool) → MayNote u wanted seat code → Kept u → Kept w
  noted_kept wanted may kept =
      held (λ m. (
        ruled_stands u.roster u.largest (by_seat u.puts) (by_seat next) seat code may.free
            (seat_new u.puts seat (Some code) may.low (omega (arith, u.room, may.high)))
            (λ i lo other. seat_old u.puts seat (Some code) i may.low lo other)
            (new_within wanted may (kept m).0.within) u.ruling (kept m).0,
        λ i d e. ap (ruled u.roster.size.n u.roster.size.t (by_seat next) code) ((kept m).1 i d e),
      ))

module _ (u w : Umpire) (to : ℕ) (by : Given u to w) where
  pub given_kept : MayGive u to → Kept u → Kept w
  given_kept may kept =
      transport⁻¹ (λ i. Holds (by.roster i) (by.largest i) (by.puts i) (by.ruling i) (by.given i)) (λ m. (
        (kept m).0,
        λ i d e. elim (new_or_old u.given to u.ruling i may.low (omega (arith, u.rooms, may.high))) [
          | inl new ↦ sym new ∙ e
          | inr old ↦ (kept m).1 i d (sym old ∙ e)
        ],
      ))

-- a call of the code keeps all, from what it promises: a denied one changes nothing
pub note_keeps : (u w : Umpire) (wanted : Bool) (seat code : ℕ) (r : Result Unit Denial) → r ≡ answer (note_denial u wanted seat code) tt → (is_ok r ≡ false → w ≡ u) → (is_ok r ≡ true → Noted u seat code w) → Kept u → Kept w
note_keeps u w wanted seat code r value same after =
    keeps_by u w r same (λ k. noted_kept u w seat code (after k) wanted (may_note u wanted seat code r value k))

pub give_keeps : (u w : Umpire) (to : ℕ) (r : Result Unit Denial) → r ≡ answer (give_denial u to) tt → (is_ok r ≡ false → w ≡ u) → (is_ok r ≡ true → Given u to w) → Kept u → Kept w
give_keeps u w to r value same after =
    keeps_by u w r same (λ k. given_kept u w to (after k) (may_give u to r value k))
