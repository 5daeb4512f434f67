-- The laws of a carrier, of a list of cells that the rules have kept. Assumes nothing.
use Rattle.std.proofs.Common.{◌≡◌, ℕ, ◌<◌, Bool, true, false, cond, not, ◌&&◌, List, get_or, Some, None, Option, refl, ◌∙◌, inl, inr}
use Rattle.std.proofs.lemmas.Bool.{and_parts, and_cases, not-true, both_ways, cases_Bool, cond-true, cond-false}
use Rattle.carrier.specs.Laws.{Lawful}
use Rattle.roster.specs.Counting.{member}
use Rattle.roster.specs.declared.roster.Roster.{Roster}
use Rattle.broadcast.specs.declared.cell.Cell.{Cell}
use Rattle.broadcast.specs.Cells.{blank, none}
use Rattle.broadcast.specs.Meanings.{meaning, Clear}
use Rattle.broadcast.specs.Rows.{room, fits, row}
use Rattle.broadcast.specs.Stills.{still}
use Rattle.broadcast.proofs.Carried.{Carried, row_empty, carried_clear}
use Rattle.broadcast.proofs.Promises as promises
use Rattle.broadcast.proofs.Stills.{still_quiet}
use Rattle.broadcast.proofs.Votes.{some_not_none}

-- what every call keeps
abbrev pub Invariant : Roster → List Cell → Type 0
Invariant r cs = fits r.size.n cs ≡ true → Carried r cs

seen : (b : Bool) (o : Option ℕ) (v : ℕ) → cond b o None ≡ Some v → (b ≡ true) × (o ≡ Some v)
seen true o v h = (refl, h)
seen false o v h = some_not_none None v refl h

module _ (r : Roster) (cs : List Cell) (touched : Bool) (clear : Clear r.size.n cs touched) where
  abbrev n : ℕ
  n = r.size.n

  blanks : not (fits n cs && touched) ≡ true → fits n cs ≡ true → (k : ℕ) → k < room n → get_or cs k none ≡ blank
  blanks h fit = elim (and_cases (fits n cs) touched (not-true (fits n cs && touched) h)) [
    | inl e ↦ absurd (both_ways (fits n cs) e fit)
    | inr e ↦ clear e fit
  ]

  pub fresh : (meaning r cs touched).untouched ≡ true → Invariant r cs
  fresh h fit = carried_clear r cs (blanks h fit)

  unseen : (o : Option ℕ) → (fits n cs ≡ true → o ≡ None) → cond (fits n cs) o None ≡ None
  unseen o h = elim (cases_Bool (fits n cs)) [
    | inl e ↦ cond-true (fits n cs) o None e ∙ h e
    | inr e ↦ cond-false (fits n cs) o None e
  ]

  module _ (ok : Invariant r cs) where
    abbrev faulty : ℕ → Bool
    faulty = member r.faulty

    pub lawful : Lawful (meaning r cs touched)
    lawful = record {
      one = λ i j o s c d si sj h k.
          let a = seen (fits n cs) _ c h in
          promises.one n r.size.t faulty r.bounded r.size.third (row n cs o s) o (ok a.0 o s) i j c d si sj a.1 (seen (fits n cs) _ d k).1;
      from_put = λ i o s c si so h.
          let a = seen (fits n cs) _ c h in
          cond-true (fits n cs) _ None a.0
          ∙ promises.from_put n r.size.t faulty r.bounded r.size.third (row n cs o s) o (ok a.0 o s) i c si so a.1;
      spread = λ h i j o s c si sj k.
          let f = and_parts (fits n cs) (still r cs) h in
          cond-true (fits n cs) _ None f.0
          ∙ promises.spread n r.size.t faulty r.bounded r.size.third (row n cs o s) o (ok f.0 o s) (still_quiet r cs f.1 o s) i j c si sj (seen (fits n cs) _ c k).1;
      arrived = λ h j o s c sj so k.
          let f = and_parts (fits n cs) (still r cs) h in
          cond-true (fits n cs) _ None f.0
          ∙ promises.arrived n r.size.t faulty r.bounded r.size.third (row n cs o s) o (ok f.0 o s) (still_quiet r cs f.1 o s) j c sj so (seen (fits n cs) _ c k).1;
      matched = λ h. (and_parts (fits n cs) (still r cs) h).0;
      no_put = λ h i s. unseen _ (λ fit. (row_empty n cs (blanks h fit) i s i).no_put);
      no_holding = λ h i o s. unseen _ (λ fit. (row_empty n cs (blanks h fit) o s i).not_held);
    }
