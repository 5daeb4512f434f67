-- What the rules keep in a list of cells. Assumes nothing.
use Rattle.std.proofs.Common.{◌≡◌, ℕ, zero, suc, ◌<◌, Bool, true, cond, List, get_or, set, replicate, None, Option, sym, refl, ap, ◌∙◌, subst, inl, inr, arith}
use mathlib.Core.Path.{fun_ext}
use Rattle.std.proofs.lemmas.Bool.{cases_eq, cases_Bool}
use Rattle.roster.specs.Counting.{member}
use Rattle.roster.specs.declared.roster.Roster.{Roster}
use Rattle.roster.proofs.Voting.{blank_seat}
use Rattle.broadcast.specs.declared.cell.Cell.{Cell}
use Rattle.roster.specs.Votes.{by_seat, is}
use Rattle.broadcast.specs.Cells.{blank, none, votes}
use Rattle.broadcast.specs.Rows.{room, fits, within, place, row}
use Rattle.broadcast.proofs.Kept.{Good, Kept}
use Rattle.broadcast.proofs.Rows.{row_at, row_out, row_other, row_wrote, place_low}
use Rattle.broadcast.proofs.Steps.{Wrote}
use Rattle.broadcast.proofs.Votes.{some_not_none}

-- every row is kept
abbrev pub Carried : Roster → List Cell → Type 0
Carried r cs = (o s : ℕ) → Kept r.size.n r.size.t (member r.faulty) (row r.size.n cs o s) o

-- a write that keeps its row keeps all
pub carried_set : (r : Roster) (cs : List Cell) (o s p : ℕ) (c : Cell) → within r.size.n p o s ≡ true → fits r.size.n cs ≡ true → Carried r cs
    → ((y : ℕ → Cell) → Wrote (row r.size.n cs o s) p c y → Kept r.size.n r.size.t (member r.faulty) y o)
    → Carried r (set cs (place r.size.n p o s) c)
carried_set r cs o s p c inside fit kept step o' s' =
    let n = r.size.n in
    let K : ℕ → (ℕ → Cell) → Type 0 = λ o x. Kept n r.size.t (member r.faulty) x o in
    let after = set cs (place n p o s) c in
    let elsewhere : ((o' ≡ o) × (s' ≡ s) → ⊥) → K o' (row n after o' s') = λ ne.
    subst (K o') (sym (fun_ext (λ q. row_other n cs o s p c inside o' s' q (λ e. ne (e.1, e.2))))) (kept o' s') in
    elim (cases_eq o' o) [
      | inr ne ↦ elsewhere (λ e. ne e.0)
      | inl e ↦ elim (cases_eq s' s) [
        | inr ne ↦ elsewhere (λ k. ne k.1)
        | inl k ↦ subst (λ i. K i (row n after i s')) (sym e) (subst (λ j. K o (row n after o j)) (sym k) (step (row n after o s) (row_wrote n cs o s p c inside fit)))
      ]
    ]

-- a cell in which nothing was counted, sent or held
pub record Empty (c : Cell) : Type 0 where
  pub no_init : c.init ≡ None
  pub no_echo : (i : ℕ) → by_seat c.echo i ≡ None
  pub no_ready : (i : ℕ) → by_seat c.ready i ≡ None
  pub no_put : c.put ≡ None
  pub not_echoed : c.echoed ≡ None
  pub not_readied : c.readied ≡ None
  pub not_held : c.held ≡ None

pub blank_empty : Empty blank
blank_empty = record {
  no_init = refl;
  no_echo = λ i. blank_seat (replicate 10 None) 10 i refl;
  no_ready = λ i. blank_seat (replicate 10 None) 10 i refl;
  no_put = refl;
  not_echoed = refl;
  not_readied = refl;
  not_held = refl;
}

pub none_empty : Empty none
none_empty = record { no_init = refl; no_echo = λ i. refl; no_ready = λ i. refl; no_put = refl; not_echoed = refl; not_readied = refl; not_held = refl }

no_votes : (by : List (Option ℕ)) → ((i : ℕ) → by_seat by i ≡ None) → (n v : ℕ) → votes n by v ≡ 0
no_votes by h zero v = refl
no_votes by h (suc n) v = omega (arith, ap (λ o. cond {A = ℕ} (is v o) 1 0) (h (suc n)), no_votes by h n v)

empty_good : (n t : ℕ) (faulty : ℕ → Bool) (x : ℕ → Cell) (o : ℕ) (c : Cell) → Empty c → Good n t faulty x o c
empty_good n t faulty x o c e = record {
  init_sent = λ so v h. some_not_none c.init v e.no_init h;
  echo_sent = λ q v lo sq h. some_not_none (by_seat c.echo q) v (e.no_echo q) h;
  ready_sent = λ q v lo sq h. some_not_none (by_seat c.ready q) v (e.no_ready q) h;
  echoes_init = e.not_echoed ∙ sym e.no_init;
  echoes_served = λ v h. absurd (omega (arith, h, no_votes c.echo e.no_echo n v));
  readies_served = λ v h. absurd (omega (arith, h, no_votes c.ready e.no_ready n v));
  held_why = λ v h. some_not_none c.held v e.not_held h;
  held_when = λ v h. absurd (omega (arith, h, no_votes c.ready e.no_ready n v));
  ready_backed = λ v h. some_not_none c.readied v e.not_readied h;
}

-- a list that was not touched is kept
module _ (n : ℕ) (cs : List Cell) (clear : (k : ℕ) → k < room n → get_or cs k none ≡ blank) where
  pub row_empty : (o s p : ℕ) → Empty (row n cs o s p)
  row_empty o s p = elim (cases_Bool (within n p o s)) [
    | inl h ↦ subst Empty (sym (row_at n cs o s p h ∙ clear (place n p o s) (place_low n p o s h))) blank_empty
    | inr h ↦ subst Empty (sym (row_out n cs o s p h)) none_empty
  ]

pub carried_clear : (r : Roster) (cs : List Cell) → ((k : ℕ) → k < room r.size.n → get_or cs k none ≡ blank) → Carried r cs
carried_clear r cs clear o s p sp = empty_good r.size.n r.size.t (member r.faulty) _ o _ (row_empty r.size.n cs clear o s p)
