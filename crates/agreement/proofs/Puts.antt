-- What a granted put leaves of the puts before it. Assumes nothing.
use Rattle.std.proofs.Common.{◌≡◌, ℕ, ◌≤◌, Bool, true, false, not, leb, is_some, Some, None, Option, sym, refl, ◌∙◌, subst, inl, inr, arith}
use Rattle.std.proofs.lemmas.Bool.{cases_eq, cond-true, cond-false, eq-eqb, leb-true, ne_eqb}
use Rattle.roster.specs.Checks.{check}
use Rattle.roster.specs.Counting.{is_seat}
use Rattle.roster.specs.Rosters.{sound}
use Rattle.roster.specs.declared.denial.Denial.{Denial}
use Rattle.agreement.specs.Views.{Fixed, View, Put, put_denial, seat_denial}

-- a check that was passed
pub passed : (b : Bool) (d : Denial) (rest : Option Denial) → check b d rest ≡ None → (b ≡ true) × (rest ≡ None)
passed true d rest e = (refl, e)
passed false d rest e = let z : ◌≡◌ {A = ℕ} 0 1 = cc in absurd (omega arith)

absent : (o : Option ℕ) → not (is_some o) ≡ true → o ≡ None
absent None e = refl
absent (Some x) e = let z : ◌≡◌ {A = ℕ} 0 1 = cc in absurd (omega arith)

none_some : (o : Option ℕ) (c : ℕ) → o ≡ None → o ≡ Some c → ⊥
none_some o c p q = let z : ◌≡◌ {A = ℕ} 0 1 = cc in omega arith

-- a seat that passed its checks
pub record Seated (f : Fixed) (seat : ℕ) : Type 0 where
  pub matched : f.matched ≡ true
  pub inside : is_seat f.roster.size.n seat ≡ true
  pub is_sound : sound f.roster seat ≡ true

pub seat_granted : (f : Fixed) (seat : ℕ) (rest : Option Denial) → seat_denial f seat rest ≡ None → Seated f seat × (rest ≡ None)
seat_granted f seat rest e =
    let a = passed f.matched _ _ e in
    let b = passed (is_seat f.roster.size.n seat) _ _ a.1 in
    let c = passed (sound f.roster seat) _ _ b.1 in
    (record { matched = a.0; inside = b.0; is_sound = c.0 }, c.1)

pub record Grantable (v : View) (seat code : ℕ) : Type 0 where
  pub seated : Seated v.fixed seat
  pub small : code ≤ v.fixed.largest
  pub free : v.puts seat ≡ None

pub put_granted : (v : View) (seat code : ℕ) → put_denial v seat code ≡ None → Grantable v seat code
put_granted v seat code e =
    let a = seat_granted v.fixed seat _ e in
    let b = passed (leb code v.fixed.largest) _ _ a.1 in
    let c = passed (not (is_some (v.puts seat))) _ _ b.1 in
    record { seated = a.0; small = leb-true _ _ b.0; free = absent (v.puts seat) c.0 }

module _ (v : View) (seat code : ℕ) (w : View) (p : Put v seat code w) where
  pub put_here : w.puts seat ≡ Some code
  put_here = p.puts seat ∙ cond-true _ _ _ (eq-eqb seat seat refl)

  pub put_seat : (i : ℕ) → (i ≡ seat → ⊥) → w.puts i ≡ v.puts i
  put_seat i ne = p.puts i ∙ cond-false _ _ _ (ne_eqb i seat ne)

  pub put_grows : v.puts seat ≡ None → (i c : ℕ) → v.puts i ≡ Some c → w.puts i ≡ Some c
  put_grows free i c e = elim (cases_eq i seat) [
    | inr ne ↦ put_seat i ne ∙ e
    | inl x ↦ absurd (none_some (v.puts i) c (subst (λ k. v.puts k ≡ None) (sym x) free) e)
  ]
