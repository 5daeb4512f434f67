-- What a put and a move do to the meaning of a list of cells. Assumes nothing.
use Rattle.std.proofs.Common.{◌≡◌, ℕ, Bool, true, false, cond, not, ◌&&◌, eqb, leb, ◌⊎◌, List, set, Some, None, Ok, Option, sym, refl, ap, ◌∙◌, subst, inl, inr, length-set}
use Rattle.std.proofs.lemmas.Bool.{and_from, and_left, and_right, cases_eq, eq-eqb, ne_eqb, cond-true, cond-false}
use Rattle.carrier.specs.Views.{Fixed, Put, Moved}
use Rattle.roster.specs.Counting.{member}
use Rattle.roster.specs.declared.moves.Move.{Move}
use Rattle.roster.specs.declared.roster.Roster.{Roster}
use Rattle.broadcast.specs.declared.cell.Cell.{Cell}
use Rattle.broadcast.specs.declared.letter.Letter.{Letter}
use Rattle.broadcast.specs.Cells.{with_put}
use Rattle.broadcast.specs.Meanings.{meaning}
use Rattle.broadcast.specs.Moves.{due}
use Rattle.broadcast.specs.Rows.{room, fits, within, place, row}
use Rattle.broadcast.specs.Rules.{counted}
use Rattle.broadcast.proofs.Carried.{carried_set}
use Rattle.broadcast.proofs.Laws.{Invariant}
use Rattle.broadcast.proofs.Moves.{Due, due_why}
use Rattle.broadcast.proofs.Rows.{row_here, row_other}
use Rattle.broadcast.proofs.Steps.{counted_put, counted_held, kept_put, kept_counted}

module _ (r : Roster) (cs : List Cell) (o s p : ℕ) (c : Cell) (inside : within r.size.n p o s ≡ true) (fit : fits r.size.n cs ≡ true) where
  abbrev n : ℕ
  n = r.size.n

  abbrev after : List Cell
  after = set cs (place n p o s) c

  same_fit : fits n after ≡ fits n cs
  same_fit = ap (leb (room n)) (length-set cs (place n p o s) c)

  cell_cases : (o' s' p' : ℕ) → ((p' ≡ p) × (o' ≡ o) × (s' ≡ s)) ⊎ ((p' ≡ p) × (o' ≡ o) × (s' ≡ s) → ⊥)
  cell_cases o' s' p' = elim (cases_eq p' p) [
    | inr ne ↦ inr (λ e. ne e.0)
    | inl a ↦ elim (cases_eq o' o) [
      | inr ne ↦ inr (λ e. ne e.1)
      | inl b ↦ elim (cases_eq s' s) [ inr ne ↦ inr (λ e. ne e.2) | inl d ↦ inl (a, b, d) ]
    ]
  ]

  -- what holds of the cell before and after, and of any cell that stays, holds of the same cell of each row
  by_cell : (P : Cell → Cell → Type 0) → P (row n cs o s p) c → ((d : Cell) → P d d) → (o' s' p' : ℕ) → P (row n cs o' s' p') (row n after o' s' p')
  by_cell P here same o' s' p' = elim (cell_cases o' s' p') [
    | inr ne ↦ subst (P (row n cs o' s' p')) (sym (row_other n cs o s p c inside o' s' p' ne)) (same (row n cs o' s' p'))
    | inl e ↦
        subst (λ i. P (row n cs o' s' i) (row n after o' s' i)) (sym e.0)
        (subst (λ i. P (row n cs i s' p) (row n after i s' p)) (sym e.1)
        (subst (λ i. P (row n cs o i p) (row n after o i p)) (sym e.2)
        (subst (P (row n cs o s p)) (sym (row_here n cs o s p c inside fit)) here)))
  ]

  same_fixed : (t t' : Bool) → (meaning r after t').fixed ≡ (meaning r cs t).fixed
  same_fixed t t' = ap (λ m. let f : Fixed = record { roster = r; matched = m } in f) same_fit

  now_touched : not (fits n after && true) ≡ false
  now_touched = rw (same_fit, fit)

  seen_same : (x y : Option ℕ) → y ≡ x → cond (fits n after) y None ≡ cond (fits n cs) x None
  seen_same x y e = rw (same_fit, e)

module _ (r : Roster) (cs : List Cell) (touched : Bool) (seat slot code : ℕ) (inside : within r.size.n seat seat slot ≡ true) (fit : fits r.size.n cs ≡ true) where
  abbrev x : ℕ → ℕ → ℕ → Cell
  x = row r.size.n cs

  abbrev put_cells : List Cell
  put_cells = set cs (place r.size.n seat seat slot) (with_put (x seat slot seat) code)

  put_there : (i j : ℕ) → (row r.size.n put_cells i j i).put ≡ cond (eqb i seat && eqb j slot) (Some code) (x i j i).put
  put_there i j = elim (cases_eq i seat) [
    | inr ne ↦
        ap (λ (c : Cell). c.put) (row_other r.size.n cs seat slot seat _ inside i j i (λ e. ne e.0))
        ∙ sym (cond-false (eqb i seat && eqb j slot) (Some code) _ (and_left (eqb i seat) (eqb j slot) (ne_eqb i seat ne)))
    | inl e ↦ elim (cases_eq j slot) [
      | inr ne ↦
          ap (λ (c : Cell). c.put) (row_other r.size.n cs seat slot seat _ inside i j i (λ k. ne k.2))
          ∙ sym (cond-false (eqb i seat && eqb j slot) (Some code) _ (and_right (eqb i seat) (eqb j slot) (ne_eqb j slot ne)))
      | inl k ↦
          ap (λ a. (row r.size.n put_cells a j a).put) e ∙ ap (λ b. (row r.size.n put_cells seat b seat).put) k
          ∙ ap (λ (c : Cell). c.put) (row_here r.size.n cs seat slot seat _ inside fit)
          ∙ sym (cond-true (eqb i seat && eqb j slot) (Some code) _ (and_from (eqb i seat) (eqb j slot) (eq-eqb i seat e) (eq-eqb j slot k)))
    ]
  ]

  pub put_effect : Put (meaning r cs touched) seat slot code (meaning r put_cells true)
  put_effect = record {
    fixed = same_fixed r cs seat slot seat _ inside fit touched true;
    touched = now_touched r cs seat slot seat _ inside fit;
    puts = λ i j.
        cond-true (fits r.size.n put_cells) _ None (same_fit r cs seat slot seat _ inside fit ∙ fit) ∙ put_there i j
        ∙ ap (cond (eqb i seat && eqb j slot) (Some code)) (sym (cond-true (fits r.size.n cs) _ None fit));
    held = λ i o s. seen_same r cs seat slot seat _ inside fit _ _
        (by_cell r cs seat slot seat _ inside fit (λ a b. b.held ≡ a.held) refl (λ d. refl) o s i);
  }

  pub put_keeps : (x seat slot seat).put ≡ None → Invariant r cs → Invariant r put_cells
  put_keeps fresh ok _ = carried_set r cs seat slot seat _ inside fit (ok fit)
      (λ y w. kept_put r.size.n r.size.t (member r.faulty) (x seat slot) y seat (ok fit seat slot) code fresh w)

module _ (r : Roster) (cs : List Cell) (touched : Bool) (by : Move) (l : Letter) (granted : due r cs by ≡ Ok l) where
  abbrev why : Due r cs by l
  why = due_why r cs by l granted

  abbrev old : Cell
  old = row r.size.n cs by.origin by.slot by.to

  abbrev new : Cell
  new = counted r.size.n r.size.t l old

  abbrev moved_cells : List Cell
  moved_cells = set cs (place r.size.n by.to by.origin by.slot) new

  pub move_effect : Moved (meaning r cs touched) (meaning r moved_cells true)
  move_effect =
      let cell = by_cell r cs by.origin by.slot by.to new why.inside why.fit in
      record {
        fixed = same_fixed r cs by.origin by.slot by.to new why.inside why.fit touched true;
        touched = now_touched r cs by.origin by.slot by.to new why.inside why.fit;
        puts = λ i s. seen_same r cs by.origin by.slot by.to new why.inside why.fit _ _
            (cell (λ a b. b.put ≡ a.put) (counted_put r.size.n r.size.t l old) (λ d. refl) i s i);
        held = λ i o s v h.
            cond-true (fits r.size.n moved_cells) _ None (same_fit r cs by.origin by.slot by.to new why.inside why.fit ∙ why.fit)
            ∙ cell (λ a b. a.held ≡ Some v → b.held ≡ Some v) (counted_held r.size.n r.size.t l old v) (λ d k. k) o s i
            (sym (cond-true (fits r.size.n cs) _ None why.fit) ∙ h);
      }

  pub move_keeps : Invariant r cs → Invariant r moved_cells
  move_keeps ok _ = carried_set r cs by.origin by.slot by.to new why.inside why.fit (ok why.fit)
      (λ y w. kept_counted r.size.n r.size.t (member r.faulty) (row r.size.n cs by.origin by.slot) y by.origin
      (ok why.fit by.origin by.slot) by.to l why.to_sound why.low r.bounded why.fresh why.own why.as_sent w)
