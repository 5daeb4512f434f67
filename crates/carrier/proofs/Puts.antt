-- What a granted put leaves of the puts before it. Assumes nothing.
use Rattle.std.proofs.Common.{◌≡◌, ℕ, Bool, true, false, not, ◌⊎◌, is_some, Some, None, Option, sym, refl, ◌∙◌, subst, inl, inr, arith, rules}
use Rattle.std.proofs.lemmas.Bool.{and_from, and_left, and_right, cases_eq, cond-true, cond-false, eq-eqb, ne_eqb}
use Rattle.roster.specs.Checks.{check}
use Rattle.roster.specs.Rosters.{sound}
use Rattle.roster.specs.declared.denial.Denial.{Denial}
use Rattle.carrier.specs.Views.{View, Put, put_denial}

-- a check that was passed
pub passed : (b : Bool) (d : Denial) (rest : Option Denial) → check b d rest ≡ None → (b ≡ true) × (rest ≡ None)
passed true d rest e = (refl, e)
passed false d rest e = let z : ◌≡◌ {A = ℕ} 0 1 = cc in absurd (omega arith)

absent : (o : Option ℕ) → not (is_some o) ≡ true → o ≡ None
absent None e = refl
absent (Some x) e = let z : ◌≡◌ {A = ℕ} 0 1 = cc in absurd (omega arith)

pub put_granted : (v : View) (seat slot : ℕ) → put_denial v seat slot ≡ None → (sound v.fixed.roster seat ≡ true) × (v.puts seat slot ≡ None)
put_granted v seat slot e = (search (rules, passed), absent _ (search (rules, passed)))

none_some : (o : Option ℕ) (c : ℕ) → o ≡ None → o ≡ Some c → ⊥
none_some o c p q = let z : ◌≡◌ {A = ℕ} 0 1 = cc in omega arith

module _ (v : View) (seat slot code : ℕ) (w : View) (p : Put v seat slot code w) where
  pub put_here : w.puts seat slot ≡ Some code
  put_here = p.puts seat slot ∙ cond-true _ _ _ (and_from _ _ (eq-eqb seat seat refl) (eq-eqb slot slot refl))

  pub put_seat : (i s : ℕ) → (i ≡ seat → ⊥) → w.puts i s ≡ v.puts i s
  put_seat i s ne = p.puts i s ∙ cond-false _ _ _ (and_left _ _ (ne_eqb i seat ne))

  pub put_slot : (i s : ℕ) → (s ≡ slot → ⊥) → w.puts i s ≡ v.puts i s
  put_slot i s ne = p.puts i s ∙ cond-false _ _ _ (and_right _ _ (ne_eqb s slot ne))

  pub put_cases : (i s : ℕ) → (w.puts i s ≡ v.puts i s) ⊎ ((i ≡ seat) × (s ≡ slot))
  put_cases i s = elim (cases_eq i seat) [
    | inr ne ↦ inl (put_seat i s ne)
    | inl e ↦ elim (cases_eq s slot) [ inr ne ↦ inl (put_slot i s ne) | inl f ↦ inr (e, f) ]
  ]

  pub put_grows : v.puts seat slot ≡ None → (i s c : ℕ) → v.puts i s ≡ Some c → w.puts i s ≡ Some c
  put_grows free i s c e = elim (put_cases i s) [
    | inl same ↦ same ∙ e
    | inr (x, y) ↦ absurd (none_some (v.puts i s) c (subst (λ k. v.puts k s ≡ None) (sym x) (subst (λ k. v.puts seat k ≡ None) (sym y) free)) e)
  ]
