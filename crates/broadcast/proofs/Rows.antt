-- One write changes one cell of one row. Assumes nothing.
use Rattle.std.proofs.Common.{◌≡◌, ℕ, ◌+◌, ◌-◌, ◌*◌, ◌/◌, ◌%◌, ◌<◌, ◌≤◌, true, false, ◌&&◌, leb, List, length, get_or, set, None, sym, refl, ap, ◌∙◌, inl, inr, arith}
use lib.Arith.{digits_lt, digits_div, digits_mod}
use Rattle.std.proofs.lemmas.List.{get_or-set_same, get_or-set_other}
use Rattle.std.proofs.lemmas.Bool.{and_parts, leb-true, cases_Bool, cond-true, cond-false}
use Rattle.carrier.specs.Views.{is_slot}
use Rattle.roster.specs.Counting.{is_seat}
use Rattle.broadcast.specs.declared.cell.Cell.{Cell}
use Rattle.broadcast.specs.declared.letter.Kind.{Kind}
use Rattle.broadcast.specs.declared.letter.Kind.TheVariants.{Init, Echo, Ready}
use Rattle.broadcast.specs.Cells.{none}
use Rattle.broadcast.specs.Rows.{room, fits, within, place, row}
use Rattle.broadcast.specs.Rules.{sent, got, handed}
use Rattle.broadcast.proofs.Steps.{Wrote}

-- what the test of a place says
pub record Within (n p o s : ℕ) : Type 0 where
  pub p_low : 1 ≤ p
  pub p_high : p ≤ n
  pub o_low : 1 ≤ o
  pub o_high : o ≤ n
  pub s_low : 1 ≤ s
  pub s_high : s ≤ 2

seat_parts : (n i : ℕ) → is_seat n i ≡ true → (1 ≤ i) × (i ≤ n)
seat_parts n i h = let k = and_parts (leb 1 i) (leb i n) h in (leb-true 1 i k.0, leb-true i n k.1)

pub within_parts : (n p o s : ℕ) → within n p o s ≡ true → Within n p o s
within_parts n p o s h =
    let a = and_parts (is_seat n p) (is_seat n o && is_slot s) h in
    let b = and_parts (is_seat n o) (is_slot s) a.1 in
    let c = and_parts (leb 1 s) (leb s 2) b.1 in
    record {
      p_low = (seat_parts n p a.0).0;
      p_high = (seat_parts n p a.0).1;
      o_low = (seat_parts n o b.0).0;
      o_high = (seat_parts n o b.0).1;
      s_low = leb-true 1 s c.0;
      s_high = leb-true s 2 c.1;
    }

pub line_low : (n p o s : ℕ) → Within n p o s → (s - 1) * n + (o - 1) < 2 * n
line_low n p o s w = digits_lt {q = s - 1} {m = 2} {r = o - 1} {c = n} (omega (arith, w.s_low, w.s_high)) (omega (arith, w.o_low, w.o_high))

pub place_low : (n p o s : ℕ) → within n p o s ≡ true → place n p o s < room n
place_low n p o s h =
    let w = within_parts n p o s h in
    digits_lt {q = (s - 1) * n + (o - 1)} {m = 2 * n} {r = p - 1} {c = n} (line_low n p o s w) (omega (arith, w.p_low, w.p_high))

digits_same : (m a b c d : ℕ) → b < m → d < m → a * m + b ≡ c * m + d → (a ≡ c) × (b ≡ d)
digits_same m a b c d hb hd e =
    (sym (digits_div a hb) ∙ ap (λ z. z / m) e ∙ digits_div c hd, sym (digits_mod a hb) ∙ ap (λ z. z % m) e ∙ digits_mod c hd)

pub place_one : (n p o s p' o' s' : ℕ) → within n p o s ≡ true → within n p' o' s' ≡ true → place n p o s ≡ place n p' o' s' → (p ≡ p') × (o ≡ o') × (s ≡ s')
place_one n p o s p' o' s' h h' e =
    let w = within_parts n p o s h in
    let w' = within_parts n p' o' s' h' in
    let a = digits_same n ((s - 1) * n + (o - 1)) (p - 1) ((s' - 1) * n + (o' - 1)) (p' - 1) (omega (arith, w.p_low, w.p_high)) (omega (arith, w'.p_low, w'.p_high)) e in
    let b = digits_same n (s - 1) (o - 1) (s' - 1) (o' - 1) (omega (arith, w.o_low, w.o_high)) (omega (arith, w'.o_low, w'.o_high)) a.0 in
    (omega (arith, a.1, w.p_low, w'.p_low), omega (arith, b.1, w.o_low, w'.o_low), omega (arith, b.0, w.s_low, w'.s_low))

pub row_at : (n : ℕ) (cs : List Cell) (o s p : ℕ) → within n p o s ≡ true → row n cs o s p ≡ get_or cs (place n p o s) none
unfolding row
row_at n cs o s p h = cond-true (within n p o s) _ none h

pub row_out : (n : ℕ) (cs : List Cell) (o s p : ℕ) → within n p o s ≡ false → row n cs o s p ≡ none
unfolding row
row_out n cs o s p h = cond-false (within n p o s) _ none h

-- where there is no cell, nothing was sent and nothing counted
pub sent_out : (n : ℕ) (cs : List Cell) (o s p : ℕ) (k : Kind) → within n p o s ≡ false → sent k (row n cs o s p) ≡ None
sent_out n cs o s p k h = ap (sent k) (row_out n cs o s p h) ∙ at k where
  at : (k : Kind) → sent k none ≡ None
  at Init = refl
  at Echo = refl
  at Ready = refl

pub got_out : (n : ℕ) (cs : List Cell) (o s p q : ℕ) (k : Kind) → within n p o s ≡ false → got k q (row n cs o s p) ≡ None
got_out n cs o s p q k h = ap (got k q) (row_out n cs o s p h) ∙ at k where
  at : (k : Kind) → got k q none ≡ None
  at Init = refl
  at Echo = refl
  at Ready = refl

pub handed_out : (n : ℕ) (cs : List Cell) (o s p : ℕ) (d : Cell) → within n p o s ≡ false → handed p (row n cs o s p) d ≡ true
handed_out n cs o s p d h = ap (λ c. handed p c d) (row_out n cs o s p h)

module _ (n : ℕ) (cs : List Cell) (o s p : ℕ) (c : Cell) (inside : within n p o s ≡ true) where
  pub row_here : fits n cs ≡ true → row n (set cs (place n p o s) c) o s p ≡ c
  row_here fit =
      let low : place n p o s < length cs = omega (arith, place_low n p o s inside, leb-true (room n) (length cs) fit) in
      row_at n (set cs (place n p o s) c) o s p inside ∙ get_or-set_same cs (place n p o s) c none low

  pub row_other : (o' s' p' : ℕ) → ((p' ≡ p) × (o' ≡ o) × (s' ≡ s) → ⊥) → row n (set cs (place n p o s) c) o' s' p' ≡ row n cs o' s' p'
  row_other o' s' p' ne = elim (cases_Bool (within n p' o' s')) [
    | inr h ↦ row_out n (set cs (place n p o s) c) o' s' p' h ∙ sym (row_out n cs o' s' p' h)
    | inl h ↦
        row_at n (set cs (place n p o s) c) o' s' p' h
        ∙ get_or-set_other cs (place n p o s) (place n p' o' s') c none (λ e. ne (place_one n p' o' s' p o s h inside e))
        ∙ sym (row_at n cs o' s' p' h)
  ]

  pub row_wrote : fits n cs ≡ true → Wrote (row n cs o s) p c (row n (set cs (place n p o s) c) o s)
  row_wrote fit = record { here = row_here fit; other = λ q ne. row_other o s q (λ e. ne e.0) }
