-- Counting who said what. Assumes nothing.
use Rattle.std.proofs.Common.{◌≡◌, ℕ, ◌-◌, ◌≤◌, Bool, true, false, ◌⊎◌, List, length, get_or, set, is_some as option_is_some, Some, None, Option, sym, refl, ap, ◌∙◌, inl, inr, arith}
use Rattle.std.proofs.lemmas.List.{get_or-set_same, get_or-set_other, set_past}
use Rattle.std.proofs.lemmas.Bool.{true≢false, false≢true, cases_eq, cases_lt}
use Rattle.roster.proofs.Counting.{count_mono}
use Rattle.roster.specs.Votes.{by_seat, is}
use Rattle.roster.proofs.Voting.{is_said, said_is}
use Rattle.broadcast.specs.Cells.{once, said, votes}

pub some_not_none : {A : Type 0} (o : Option ℕ) (v : ℕ) → o ≡ None → o ≡ Some v → A
some_not_none o v p q = let z : ◌≡◌ {A = ℕ} 0 1 = cc in absurd (omega arith)

pub some_same : (o : Option ℕ) (v w : ℕ) → o ≡ Some v → o ≡ Some w → v ≡ w
some_same o v w p q = cc

pub is_some : (o : Option ℕ) (v : ℕ) → o ≡ Some v → option_is_some o ≡ true
is_some o v e = ap option_is_some e

pub is_none : (o : Option ℕ) → option_is_some o ≡ false → o ≡ None
is_none None h = refl
is_none (Some v) h = absurd (true≢false h)

-- what is sent or held once
pub once_due : (o : Option ℕ) (b : Bool) (v : ℕ) → b ≡ true → option_is_some (once o b v) ≡ true
once_due None b v e = rw e
once_due (Some w) b v e = refl

pub once_still : (o : Option ℕ) (b : Bool) (v : ℕ) → option_is_some o ≡ true → option_is_some (once o b v) ≡ true
once_still None b v h = absurd (false≢true h)
once_still (Some w) b v h = refl

pub once_kept : (o : Option ℕ) (b : Bool) (v w : ℕ) → o ≡ Some w → once o b v ≡ Some w
once_kept o b v w e = rw e

pub once_why : (o : Option ℕ) (b : Bool) (v w : ℕ) → once o b v ≡ Some w → (o ≡ Some w) ⊎ ((b ≡ true) × (v ≡ w))
once_why (Some u) b v w h = inl h
once_why None true v w h = inr (refl, some_same (Some v) v w refl h)
once_why None false v w h = some_not_none None w refl h

-- one more counted: what is read of the list after it
module _ (by : List (Option ℕ)) (s v : ℕ) where
  abbrev more : List (Option ℕ)
  more = set by (s - 1) (Some v)

  pub seat_more : (q : ℕ) → 1 ≤ q → 1 ≤ s → (by_seat more q ≡ by_seat by q) ⊎ ((q ≡ s) × (by_seat more q ≡ Some v))
  seat_more q lo lo' = elim (cases_eq (q - 1) (s - 1)) [
    | inr ne ↦ inl (get_or-set_other by (s - 1) (q - 1) (Some v) None ne)
    | inl e ↦ elim (cases_lt (s - 1) (length by)) [
      | inl h ↦ inr (omega arith, ap (λ i. get_or more i None) e ∙ get_or-set_same by (s - 1) (Some v) None h)
      | inr h ↦ inl (ap (λ l. get_or l (q - 1) None) (set_past by (s - 1) (Some v) h))
    ]
  ]

  pub seat_kept : (q w : ℕ) → by_seat by s ≡ None → by_seat by q ≡ Some w → by_seat more q ≡ Some w
  seat_kept q w n h = elim (cases_eq (q - 1) (s - 1)) [
    | inr ne ↦ get_or-set_other by (s - 1) (q - 1) (Some v) None ne ∙ h
    | inl e ↦ some_not_none (by_seat by s) w n (ap (λ i. get_or by i None) (sym e) ∙ h)
  ]

  pub votes_kept : (n w : ℕ) → by_seat by s ≡ None → votes n by w ≤ votes n more w
  votes_kept n w fresh = count_mono (said by w) (said more w) n
      (λ i lo hi h. is_said (by_seat more i) w (seat_kept i w fresh (said_is (by_seat by i) w h)))

  pub votes_other : (n w : ℕ) → 1 ≤ s → (w ≡ v → ⊥) → votes n more w ≤ votes n by w
  votes_other n w lo ne = count_mono (said more w) (said by w) n (λ i lo' hi h.
      elim (seat_more i lo' lo) [
        | inl e ↦ ap (is w) (sym e) ∙ h
        | inr e ↦ absurd (ne (some_same (by_seat more i) w v (said_is (by_seat more i) w h) e.1))
      ])
