-- What the answer of a call says. Assumes nothing.
use Rattle.std.proofs.Common.{◌≡◌, ℕ, ◌≤◌, Bool, true, false, cond, not, leb, is_some, is_ok, None, Result, inl, inr, arith}
use Rattle.std.proofs.lemmas.Bool.{cases_Bool, leb-true}
use Rattle.roster.specs.Checks.{answer}
use Rattle.roster.specs.Counting.{is_seat}
use Rattle.roster.specs.declared.denial.Denial.{Denial}
use Rattle.roster.specs.declared.denial.Denial.TheVariants.{OutOfRange, FaultySeat, CodeTooLarge, PutBefore, NothingDue, HandedBefore}
use Rattle.roster.specs.Rosters.{sound}
use Rattle.roster.specs.Votes.{by_seat}
use Rattle.roster.proofs.Checks.{granted, none_of, passed, wanted_is}
use Rattle.roster.proofs.Seats.{seat_within}
use Rattle.umpire.specs.Calls.{note_denial, give_denial}
use Rattle.umpire.specs.declared.umpire.Umpire.{Umpire}
use Rattle.umpire.specs.Kept.{Kept}

pub record MayNote (u : Umpire) (wanted : Bool) (seat code : ℕ) : Type 0 where
  pub low : 1 ≤ seat
  pub high : seat ≤ 10
  pub kind : sound u.roster seat ≡ wanted
  pub fits : code ≤ u.largest
  pub free : by_seat u.puts seat ≡ None

pub may_note : (u : Umpire) (wanted : Bool) (seat code : ℕ) (r : Result Unit Denial) → r ≡ answer (note_denial u wanted seat code) tt → is_ok r ≡ true → MayNote u wanted seat code
may_note u wanted seat code r value ok =
    let x = passed (is_seat u.roster.size.n seat) OutOfRange _ (granted _ tt r value ok) in
    let y = passed (cond wanted (sound u.roster seat) (not (sound u.roster seat))) FaultySeat _ x.1 in
    let z = passed (leb code u.largest) CodeTooLarge _ y.1 in
    let w = passed (not (is_some (by_seat u.puts seat))) PutBefore _ z.1 in
    let range = seat_within u.roster.size.n seat x.0 in
    record {
      low = range.0;
      high = omega (arith, u.roster.size.few);
      kind = wanted_is wanted (sound u.roster seat) y.0;
      fits = leb-true code u.largest z.0;
      free = none_of (by_seat u.puts seat) w.0;
    }

pub record MayGive (u : Umpire) (to : ℕ) : Type 0 where
  pub low : 1 ≤ to
  pub high : to ≤ 10
  pub free : by_seat u.given to ≡ None

pub may_give : (u : Umpire) (to : ℕ) (r : Result Unit Denial) → r ≡ answer (give_denial u to) tt → is_ok r ≡ true → MayGive u to
may_give u to r value ok =
    let x = passed (is_seat u.roster.size.n to) OutOfRange _ (granted _ tt r value ok) in
    let y = passed (sound u.roster to) FaultySeat _ x.1 in
    let z = passed (is_some u.ruling) NothingDue _ y.1 in
    let w = passed (not (is_some (by_seat u.given to))) HandedBefore _ z.1 in
    let range = seat_within u.roster.size.n to x.0 in
    record {
      low = range.0;
      high = omega (arith, u.roster.size.few);
      free = none_of (by_seat u.given to) w.0;
    }

-- a denied call changes nothing, and so keeps all
pub keeps_by : (u w : Umpire) (r : Result Unit Denial) → (is_ok r ≡ false → w ≡ u) → (is_ok r ≡ true → Kept u → Kept w) → Kept u → Kept w
keeps_by u w r same keeps kept =
    elim (cases_Bool (is_ok r)) [ inl ok ↦ keeps ok kept | inr denied ↦ rw (same denied) kept ]
