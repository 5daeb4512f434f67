-- A new entry stands at its own place, and changes no other. Assumes nothing.
use Rattle.std.proofs.Common.{◌≡◌, ℕ, ◌+◌, ◌-◌, ◌*◌, ◌<◌, ◌≤◌, true, false, cond, ◌&&◌, eqb, ◌≢◌, ◌⊎◌, List, length, set, None, Option, sym, refl, ap, ◌∙◌, inl, inr, arith}
use Rattle.std.proofs.lemmas.List.{get_or-set_same, get_or-set_other}
use Rattle.std.proofs.lemmas.Bool.{and_parts, and_from, and_left, and_right, cases_eq, eq-eqb, ne_eqb, cond-true, cond-false, cases_Bool}
use Rattle.carrier.specs.Views.{is_slot}
use Rattle.roster.specs.Counting.{is_seat}
use Rattle.roster.proofs.Seats.{seat_within}
use Rattle.board.specs.Places.{is_place, is_held_place, place, held_place, writing, holding}

record Within (o s : ℕ) : Type 0 where
  first : 1 ≤ o
  last : o ≤ 10
  low : 1 ≤ s
  high : s ≤ 2

within : (o s : ℕ) → is_place o s ≡ true → Within o s
within o s e =
    let parts = and_parts (is_seat 10 o) (is_slot s) e in
    let seat = seat_within 10 o parts.0 in
    let slot = seat_within 2 s parts.1 in
    record { first = seat.0; last = seat.1; low = slot.0; high = slot.1 }

-- either all numbers are the same, or one differs
pub cases_two : (p q o s : ℕ) → ((o ≡ p) × (s ≡ q)) ⊎ (((o ≡ p) → (s ≡ q) → ⊥) × ((eqb o p && eqb s q) ≡ false))
cases_two p q o s =
    elim (cases_eq o p) [
      | inl e ↦ elim (cases_eq s q) [ inl f ↦ inl (e, f) | inr n ↦ inr (λ x y. n y, and_right _ _ (ne_eqb s q n)) ]
      | inr n ↦ inr (λ x y. n x, and_left _ _ (ne_eqb o p n))
    ]

pub cases_three : (i p q j o s : ℕ) → ((j ≡ i) × (o ≡ p) × (s ≡ q)) ⊎ (j ≡ i → o ≡ p → s ≡ q → ⊥)
cases_three i p q j o s =
    elim (cases_eq j i) [
      | inl e ↦ elim (cases_two p q o s) [ inl f ↦ inl (e, f.0, f.1) | inr n ↦ inr (λ x y z. n.0 y z) ]
      | inr n ↦ inr (λ x y z. n x)
    ]

pub same_two : (p q : ℕ) → (eqb p p && eqb q q) ≡ true
same_two p q = and_from _ _ (eq-eqb p p refl) (eq-eqb q q refl)

place_apart : (o s p q : ℕ) → is_place o s ≡ true → is_place p q ≡ true → place o s ≡ place p q → (o ≡ p) × (s ≡ q)
place_apart o s p q here there e =
    let w = within o s here in
    let x = within p q there in
    (omega arith, omega arith)

row_apart : (i j x y : ℕ) → 1 ≤ i → 1 ≤ j → x < 20 → y < 20 → 20 * (i - 1) + x ≡ 20 * (j - 1) + y → (i ≡ j) × (x ≡ y)
row_apart i j x y lo lo2 hx hy e = let same : i ≡ j = omega arith in (same, omega arith)

place_below : (o s : ℕ) → is_place o s ≡ true → place o s < 20
place_below o s here = let w = within o s here in omega arith

held_apart : (i o s j p q : ℕ) → is_held_place i o s ≡ true → is_held_place j p q ≡ true → held_place i o s ≡ held_place j p q → (i ≡ j) × (o ≡ p) × (s ≡ q)
held_apart i o s j p q here there e =
    let h = and_parts (is_seat 10 i) (is_place o s) here in
    let t = and_parts (is_seat 10 j) (is_place p q) there in
    let row = row_apart i j (place o s) (place p q) (seat_within 10 i h.0).0 (seat_within 10 j t.0).0 (place_below o s h.1) (place_below p q t.1) e in
    let two = place_apart o s p q h.1 t.1 row.1 in
    (row.0, two.0, two.1)

module _ (xs : List (Option ℕ)) (v : Option ℕ) where
  pub writing_here : (p q : ℕ) → length xs ≡ 20 → is_place p q ≡ true → writing (set xs (place p q) v) p q ≡ v
  writing_here p q len e =
      cond-true _ _ _ e ∙ get_or-set_same xs (place p q) v None (omega (arith, place_below p q e))

  pub writing_there : (p q o s : ℕ) → is_place p q ≡ true → (o ≡ p → s ≡ q → ⊥) → writing (set xs (place p q) v) o s ≡ writing xs o s
  writing_there p q o s e ne =
      elim (cases_Bool (is_place o s)) [
        | inl here ↦
            let apart : place o s ≢ place p q = λ k. let two = place_apart o s p q here e k in ne two.0 two.1 in
            ap (λ y. cond (is_place o s) y None) (get_or-set_other xs (place p q) (place o s) v None apart)
        | inr out ↦ cond-false _ _ _ out ∙ sym (cond-false _ _ _ out)
      ]

  pub holding_here : (i p q : ℕ) → length xs ≡ 200 → is_held_place i p q ≡ true → holding (set xs (held_place i p q) v) i p q ≡ v
  holding_here i p q len e =
      let parts = and_parts (is_seat 10 i) (is_place p q) e in
      let seat = seat_within 10 i parts.0 in
      cond-true _ _ _ e ∙ get_or-set_same xs (held_place i p q) v None (omega (arith, place_below p q parts.1))

  pub holding_there : (i p q j o s : ℕ) → is_held_place i p q ≡ true → (j ≡ i → o ≡ p → s ≡ q → ⊥) → holding (set xs (held_place i p q) v) j o s ≡ holding xs j o s
  holding_there i p q j o s e ne =
      elim (cases_Bool (is_held_place j o s)) [
        | inl here ↦
            let apart : held_place j o s ≢ held_place i p q = λ k. let three = held_apart j o s i p q here e k in ne three.0 three.1 three.2 in
            ap (λ y. cond (is_held_place j o s) y None) (get_or-set_other xs (held_place i p q) (held_place j o s) v None apart)
        | inr out ↦ cond-false _ _ _ out ∙ sym (cond-false _ _ _ out)
      ]
