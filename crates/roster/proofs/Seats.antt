-- Sound seats of a roster. Assumes nothing.
use Rattle.std.proofs.Common.{◌≡◌, ℕ, zero, suc, ◌+◌, ◌<◌, ◌≤◌, Bool, true, false, cond, not, refl, ◌&&◌, ◌||◌, eqb, leb, sym, ◌∙◌, subst, ap, ap₂, inl, inr, add-one, arith}
use Rattle.std.proofs.lemmas.Bool.{false≢true, ne_eqb, and_parts, and_from, cases_eq, cases_Bool, eqb-true, le-leb, leb-true}
use Rattle.roster.specs.Counting.{all, count, is_seat, member}
use Rattle.roster.specs.Rosters.{same_roster, sound}
use Rattle.roster.specs.declared.roster.Roster.{Roster}
use Rattle.roster.proofs.Counting.{count_mono, many_sound, sound_some}

-- what holds of all seats, as a loop over them finds it
pub all_more : (p : ℕ → Bool) (n : ℕ) → true ≡ p (n + 1) → all p n ≡ true → all p (n + 1) ≡ true
all_more p n h k = rw add-one (and_from (p (suc n)) (all p n) (subst (λ i. p i ≡ true) (add-one n) (sym h)) k)

pub all_at : (p : ℕ → Bool) (n i : ℕ) → 1 ≤ i → i ≤ n → all p n ≡ true → p i ≡ true
all_at p zero i lo hi h = absurd (omega arith)
all_at p (suc n) i lo hi h =
    let k = and_parts (p (suc n)) (all p n) h in
    elim (cases_eq i (suc n)) [ inl e ↦ subst (λ j. p j ≡ true) (sym e) k.0 | inr ne ↦ all_at p n i lo (omega arith) k.1 ]

pub all_not : (p : ℕ → Bool) (n i : ℕ) → i < n → false ≡ p (i + 1) → false ≡ all p n
all_not p n i hi h = elim (cases_Bool (all p n)) [
  | inr e ↦ sym e
  | inl e ↦ absurd (false≢true (h ∙ all_at p n (i + 1) (omega arith) (omega arith) e))
]

pub all_end : (p : ℕ → Bool) (n i : ℕ) → i ≤ n → n ≤ i → all p i ≡ true → true ≡ all p n
all_end p n i a b h = let e : i ≡ n = omega arith in subst (λ j. true ≡ all p j) e (sym h)

one_none : (b : Bool) (k : ℕ) (rest : Bool) → rest ≡ eqb k 0 → (not b && rest) ≡ eqb (cond b 1 0 + k) 0
one_none true k rest e = sym (ne_eqb (1 + k) 0 (λ z. omega arith))
one_none false k rest e = let same : k ≡ 0 + k = omega arith in e ∙ ap (λ x. eqb x 0) same

-- all are without it exactly where none is counted
pub none_counted : (p : ℕ → Bool) (n : ℕ) → all (λ i. not (p i)) n ≡ eqb (count p n) 0
none_counted p zero = refl
none_counted p (suc n) = one_none (p (suc n)) (count p n) (all (λ i. not (p i)) n) (none_counted p n)

pub implied : (a b : Bool) → (not a || b) ≡ true → a ≡ true → b ≡ true
implied true b h e = h
implied false b h e = absurd (false≢true e)

pub seat_within : (n i : ℕ) → is_seat n i ≡ true → (1 ≤ i) × (i ≤ n)
seat_within n i e =
    let parts = and_parts (leb 1 i) (leb i n) e in
    (leb-true 1 i parts.0, leb-true i n parts.1)

pub seat_from : (n i : ℕ) → 1 ≤ i → i ≤ n → is_seat n i ≡ true
seat_from n i lo hi = and_from (leb 1 i) (leb i n) (le-leb 1 i lo) (le-leb i n hi)

-- a sound seat that has p
pub record SoundOne (r : Roster) (p : ℕ → Bool) : Type 0 where
  pub seat : ℕ
  pub is_sound : sound r seat ≡ true
  pub has : p seat ≡ true

module _ (r : Roster) where
  abbrev n : ℕ
  n = r.size.n

  abbrev t : ℕ
  t = r.size.t

  pub sound_seat : (i : ℕ) → sound r i ≡ true → is_seat n i ≡ true
  sound_seat i h = (and_parts (is_seat n i) (not (member r.faulty i)) h).0

  pub sound_within : (i : ℕ) → sound r i ≡ true → (1 ≤ i) × (i ≤ n)
  sound_within i h = seat_within n i (sound_seat i h)

  -- a seat that is not faulty is sound
  pub sound_from : (i : ℕ) → 1 ≤ i → i ≤ n → not (member r.faulty i) ≡ true → sound r i ≡ true
  sound_from i lo hi e = and_from _ _ (seat_from n i lo hi) e

  -- of more than t seats one is sound
  pub sound_one : (p : ℕ → Bool) → t < count p n → SoundOne r p
  sound_one p more =
      let s = sound_some p (member r.faulty) n t r.bounded more in
      let h = and_parts (p s.seat) (not (member r.faulty s.seat)) s.has in
      record { seat = s.seat; is_sound = sound_from s.seat s.low s.high h.1; has = h.0 }

  -- what all sound seats have, all but t have
  pub sound_many : (p : ℕ → Bool) → ((i : ℕ) → sound r i ≡ true → p i ≡ true) → n ≤ t + count p n
  sound_many p h = omega (
    arith,
    many_sound (member r.faulty) n t r.bounded,
    count_mono (λ i. not (member r.faulty i)) p n (λ i lo hi e. h i (sound_from i lo hi e)),
  )

pub same_sound : (r s : Roster) (i : ℕ) → same_roster r s ≡ true → sound r i ≡ sound s i
same_sound r s i e =
    let k = and_parts (eqb r.size.n s.size.n) _ e in
    let j = and_parts (eqb r.size.t s.size.t) _ k.1 in
    ap₂ (λ n f. is_seat n i && not (member f i)) (eqb-true _ _ k.0) (eqb-true _ _ j.1)
