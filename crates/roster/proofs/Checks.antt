-- A granted call has passed each check, and what a guarded option says. Assumes nothing.
use Rattle.std.proofs.Common.{◌≡◌, Bool, true, false, cond, not, is_some, is_ok, Some, None, Err, Option, Result, sym, refl, ap, ◌∙◌}
use Rattle.std.proofs.lemmas.Bool.{both_ways, false≢true, not-true}
use Rattle.roster.specs.Checks.{check, answer}
use Rattle.roster.specs.declared.denial.Denial.{Denial}

module _ {A : Type 0} where
  pub granted : (d : Option Denial) (a : A) (r : Result A Denial) → r ≡ answer d a → is_ok r ≡ true → d ≡ None
  granted None a r e ok = refl
  granted (Some x) a r e ok = absurd (both_ways (is_ok r) (ap is_ok e) ok)

  -- a refusal is the same whatever would be answered without one
  pub refused : (d : Option Denial) (e : Denial) (a : A) → ◌≡◌ {A = Result Unit Denial} (Err e) (answer d tt) → Err e ≡ answer d a
  refused None e a h = absurd (false≢true (ap is_ok h))
  refused (Some x) e a h = let same : e ≡ x = cc in ap Err same

  pub none_some : (x : Option A) (a : A) → x ≡ None → x ≡ Some a → ⊥
  none_some x a e f = false≢true (sym (ap is_some e) ∙ ap is_some f)

  pub none_of : (x : Option A) → not (is_some x) ≡ true → x ≡ None
  none_of None e = refl
  none_of (Some a) e = absurd (false≢true e)

  pub guarded_some : (t : Bool) (x : Option A) (a : A) → cond t x None ≡ Some a → (t ≡ true) × (x ≡ Some a)
  guarded_some true x a e = (refl, e)
  guarded_some false x a e = absurd (none_some (cond false x None) a refl e)

  pub guarded_none : (t : Bool) (x : Option A) → x ≡ None → cond t x None ≡ None
  guarded_none true x e = e
  guarded_none false x e = refl

pub passed : (t : Bool) (e : Denial) (rest : Option Denial) → check t e rest ≡ None → (t ≡ true) × (rest ≡ None)
passed true e rest p = (refl, p)
passed false e rest p = absurd (none_some (check false e rest) e p refl)

-- a check whether a seat is as sound as is wanted
pub wanted_is : (wanted is : Bool) → cond wanted is (not is) ≡ true → is ≡ wanted
wanted_is true is e = e
wanted_is false is e = not-true is e
