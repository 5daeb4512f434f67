-- What a carrier that is still says of each row. Assumes nothing.
use Rattle.std.proofs.Common.{◌≡◌, ℕ, zero, suc, ◌≤◌, Bool, true, false, not, ◌&&◌, ◌||◌, leb, ◌⊎◌, List, is_some, sym, refl, ap, ◌∙◌, subst, inl, inr, arith}
use Rattle.std.proofs.lemmas.Bool.{false≢true, and_parts, and_cases, and_right, or_right, both_ways, cases_eq, cases_Bool, leb-true}
use Rattle.carrier.specs.Views.{is_slot}
use Rattle.roster.specs.Counting.{all, is_seat, member}
use Rattle.roster.specs.declared.roster.Roster.{Roster}
use Rattle.roster.specs.Rosters.{sound}
use Rattle.roster.proofs.Seats.{all_at}
use Rattle.broadcast.specs.declared.cell.Cell.{Cell}
use Rattle.broadcast.specs.declared.letter.Kind.TheVariants.{Init, Echo, Ready}
use Rattle.broadcast.specs.Cells.{none}
use Rattle.broadcast.specs.Rows.{row, within}
use Rattle.broadcast.specs.Rules.{arrived, handed}
use Rattle.broadcast.specs.Stills.{handed_from, handed_to, row_still, origin_still, still}
use Rattle.broadcast.proofs.Kept.{Sound, Quiet}
use Rattle.broadcast.proofs.Rows.{row_out, handed_out}

implied : (a b : Bool) → (not a || b) ≡ true → a ≡ true → b ≡ true
implied true b h e = h
implied false b h e = absurd (false≢true e)

all_true : (p : ℕ → Bool) (n : ℕ) → ((i : ℕ) → p i ≡ true) → all p n ≡ true
all_true p zero h = refl
all_true p (suc n) h = rw (h (suc n)) (all_true p n h)

module _ (r : Roster) where
  abbrev n : ℕ
  n = r.size.n

  abbrev S : ℕ → Type 0
  S = Sound r.size.n r.size.t (member r.faulty)

  bounds : (i : ℕ) → S i → (1 ≤ i) × (i ≤ n)
  bounds i h =
      let k = and_parts (leb 1 i) (leb i n) (and_parts (is_seat n i) (not (member r.faulty i)) h).0 in
      (leb-true 1 i k.0, leb-true i n k.1)

  handed_all : (x : ℕ → Cell) → row_still r x ≡ true → (p q : ℕ) → S p → S q → handed q (x q) (x p) ≡ true
  unfolding row_still
  handed_all x h p q sp sq =
      let to = implied (sound r p) (all (handed_from r x p) n) (all_at (handed_to r x) n p (bounds p sp).0 (bounds p sp).1 h) sp in
      implied (sound r q) (handed q (x q) (x p)) (all_at (handed_from r x p) n q (bounds q sq).0 (bounds q sq).1 to) sq

  row_quiet : (x : ℕ → Cell) (o : ℕ) → row_still r x ≡ true → Quiet n r.size.t (member r.faulty) x o
  row_quiet x o h =
      let a : (p q : ℕ) → S p → S q → (arrived Init q (x q) (x p) ≡ true) × ((arrived Echo q (x q) (x p) && arrived Ready q (x q) (x p)) ≡ true)
      = λ p q sp sq. and_parts (arrived Init q (x q) (x p)) _ (handed_all x h p q sp sq) in
      let b : (p q : ℕ) → S p → S q → (arrived Echo q (x q) (x p) ≡ true) × (arrived Ready q (x q) (x p) ≡ true)
      = λ p q sp sq. and_parts (arrived Echo q (x q) (x p)) _ (a p q sp sq).1 in
      record {
        inits = λ p sp so. implied _ _ (a p o sp so).0;
        echoes = λ p q sp sq. implied _ _ (b p q sp sq).0;
        readies = λ p q sp sq. implied _ _ (b p q sp sq).1;
      }

  none_quiet : (x : ℕ → Cell) (o : ℕ) → ((p : ℕ) → x p ≡ none) → Quiet n r.size.t (member r.faulty) x o
  none_quiet x o e = record {
    inits = λ p sp so h. absurd (false≢true (sym (ap (λ (c : Cell). is_some c.put) (e o)) ∙ h));
    echoes = λ p q sp sq h. absurd (false≢true (sym (ap (λ (c : Cell). is_some c.echoed) (e q)) ∙ h));
    readies = λ p q sp sq h. absurd (false≢true (sym (ap (λ (c : Cell). is_some c.readied) (e q)) ∙ h));
  }

  -- where a sound receiver has no cell, nothing was sent
  pub served_out : (cs : List Cell) (o s p : ℕ) → within n p o s ≡ false → sound r p ≡ true → all (handed_from r (row n cs o s) p) n ≡ true
  served_out cs o s p out sp =
      let outside : (is_seat n o && is_slot s) ≡ false = elim (and_cases (is_seat n p) (is_seat n o && is_slot s) out) [
        | inl e ↦ absurd (both_ways (is_seat n p) e (and_parts (is_seat n p) _ sp).0)
        | inr e ↦ e
      ] in
      all_true (handed_from r (row n cs o s) p) n (λ i.
      or_right (not (sound r i)) _ (handed_out n cs o s i (row n cs o s p) (and_right (is_seat n i) _ outside)))

  slot_cases : (s : ℕ) → is_slot s ≡ true → (s ≡ 1) ⊎ (s ≡ 2)
  slot_cases s h =
      let k = and_parts (leb 1 s) (leb s 2) h in
      elim (cases_eq s 1) [ inl e ↦ inl e | inr ne ↦ inr (omega (arith, leb-true 1 s k.0, leb-true s 2 k.1)) ]

  pub still_quiet : (cs : List Cell) → still r cs ≡ true → (o s : ℕ) → Quiet n r.size.t (member r.faulty) (row n cs o s) o
  unfolding still
  still_quiet cs h o s = elim (cases_Bool (is_seat n o && is_slot s)) [
    | inr e ↦ none_quiet (row n cs o s) o (λ p. row_out n cs o s p (and_right (is_seat n p) _ e))
    | inl e ↦
        let k = and_parts (is_seat n o) (is_slot s) e in
        let i = and_parts (leb 1 o) (leb o n) k.0 in
        let both = and_parts (row_still r (row n cs o 1)) (row_still r (row n cs o 2)) (all_at (origin_still r cs) n o (leb-true 1 o i.0) (leb-true o n i.1) h) in
        elim (slot_cases s k.1) [
          | inl f ↦ row_quiet (row n cs o s) o (subst (λ j. row_still r (row n cs o j) ≡ true) (sym f) both.0)
          | inr f ↦ row_quiet (row n cs o s) o (subst (λ j. row_still r (row n cs o j) ≡ true) (sym f) both.1)
        ]
  ]
