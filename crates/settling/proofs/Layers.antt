-- What a reduction's parts say, where they fit each other. Assumes nothing.
use Rattle.std.proofs.Common.{◌≡◌, ℕ, ◌≤◌, Bool, true, eqb, Some, None, Option, sym, ◌∙◌, ap₂, arith}
use Rattle.std.proofs.lemmas.Bool.{and_parts, and_from, eqb-true, leb-true}
use Rattle.roster.specs.Checks.{check}
use Rattle.roster.specs.Rosters.{same_roster, sound}
use Rattle.roster.specs.declared.decision.Decision.{Decision}
use Rattle.roster.specs.declared.denial.Denial.{Denial}
use Rattle.roster.specs.declared.denial.Denial.TheVariants.{IllMatched, OutOfRange, FaultySeat}
use Rattle.roster.proofs.Seats.{same_sound, seat_from, sound_seat}
use Rattle.carrier.specs.Laws.{Lawful as CarrierLawful}
use Rattle.carrier.specs.Views.{Fixed as CarrierFixed, is_slot}
use Rattle.agreement.specs.Views.{Fixed}
use Rattle.settling.specs.Layers.{Layer, decided_below, fits, held_row, matched, roster_of, size_n, size_t, told}
use Rattle.settling.proofs.Settled.{Agrees}

pub record Fit (l : Layer) : Type 0 where
  pub carrier : l.carrier.fixed.matched ≡ true
  pub below : l.below.fixed.matched ≡ true
  pub plain : l.below.fixed.plain ≡ true
  pub binary : l.below.fixed.largest ≡ 1
  pub same : same_roster (roster_of l) l.below.fixed.roster ≡ true
  pub some : 1 ≤ l.largest

pub fit_why : (l : Layer) → matched l ≡ true → Fit l
fit_why l e =
    let a = and_parts l.made (fits l) e in
    let b = and_parts l.carrier.fixed.matched _ a.1 in
    let c = and_parts l.below.fixed.matched _ b.1 in
    let d = and_parts l.below.fixed.plain _ c.1 in
    let f = and_parts (eqb l.below.fixed.largest 1) _ d.1 in
    let g = and_parts (same_roster (roster_of l) l.below.fixed.roster) _ f.1 in
    record { carrier = b.0; below = c.0; plain = d.0; binary = eqb-true _ _ f.0; same = g.0; some = leb-true _ _ g.1 }

-- an answer that was given
told_why : {A : Type 0} (d : Option Denial) (o : Option A) (x : A) → told d o ≡ Some x → o ≡ Some x
told_why None o x e = e
told_why (Some d) o x e = let z : ◌≡◌ {A = ℕ} 0 1 = cc in absurd (omega arith)

told_if : {A : Type 0} (d : Option Denial) (o : Option A) → d ≡ None → told d o ≡ o
told_if d o e = rw e

-- the checks of a seat are passed
three_checks : (a b c : Bool) → a ≡ true → b ≡ true → c ≡ true → check a IllMatched (check b OutOfRange (check c FaultySeat None)) ≡ None
three_checks a b c x y z = rw (x, y, z)

module _ (l : Layer) where
  abbrev n : ℕ
  n = size_n l

  abbrev t : ℕ
  t = size_t l

  abbrev Sound : ℕ → Type 0
  Sound i = sound (roster_of l) i ≡ true

  pub held_why : (p s j v : ℕ) → held_row l p s j ≡ Some v → l.carrier.held p j s ≡ Some v
  unfolding held_row
  held_why p s j v e = told_why _ _ v e

  pub below_why : (p : ℕ) (d : Decision) → decided_below l p ≡ Some d → l.below.decided p ≡ Some d
  below_why p d e = told_why _ _ d e

  module _ (fit : Fit l) where
    pub below_sound : (i : ℕ) → Sound i → sound l.below.fixed.roster i ≡ true
    below_sound i s = sym (same_sound (roster_of l) l.below.fixed.roster i fit.same) ∙ s

    pub sound_below : (i : ℕ) → sound l.below.fixed.roster i ≡ true → Sound i
    sound_below i s = same_sound (roster_of l) l.below.fixed.roster i fit.same ∙ s

    pub held_is : (p s j : ℕ) → Sound p → is_slot s ≡ true → 1 ≤ j → j ≤ n → held_row l p s j ≡ l.carrier.held p j s
    unfolding held_row
    held_is p s j sp slot lo hi =
        told_if _ _ (three_checks _ _ _ fit.carrier (and_from _ _ (sound_seat (roster_of l) p sp) (and_from _ _ (seat_from n j lo hi) slot)) sp)

    pub below_is : (p : ℕ) → Sound p → decided_below l p ≡ l.below.decided p
    below_is p sp =
        let s = below_sound p sp in
        told_if _ _ (three_checks _ _ _ fit.below (sound_seat l.below.fixed.roster p s) s)

  -- what sound seats hold never differs
  pub rows_agree : CarrierLawful l.carrier → (p q s : ℕ) → Sound p → Sound q → Agrees n (held_row l p s) (held_row l q s)
  rows_agree law p q s sp sq i v w lo hi e f = law.one p q i s v w sp sq (held_why p s i v e) (held_why q s i w f)

-- one layer after another, with what calls never change
abbrev pub with_fixed : Layer → CarrierFixed → Fixed → Layer
with_fixed m f g = record {
  carrier = record { fixed = f; untouched = m.carrier.untouched; still = m.carrier.still; puts = m.carrier.puts; held = m.carrier.held };
  below = record { fixed = g; untouched = m.below.untouched; still = m.below.still; puts = m.below.puts; decided = m.below.decided };
  largest = m.largest;
  made = m.made;
  touched = m.touched;
  seats = m.seats;
}

pub fixed_same : (m : Layer) (f : CarrierFixed) (g : Fixed) → m.carrier.fixed ≡ f → m.below.fixed ≡ g → with_fixed m f g ≡ m
fixed_same m f g e h = ap₂ (with_fixed m) (sym e) (sym h)
