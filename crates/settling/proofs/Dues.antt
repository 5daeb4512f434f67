-- Why an act is due, and what is done where none is. Assumes nothing.
use Rattle.std.proofs.Common.{◌≡◌, ℕ, ◌≤◌, Bool, true, false, cond, not, ◌&&◌, eqb, leb, ◌⊎◌, is_some, Some, None, Option, sym, refl, ap, ◌∙◌, subst, inl, inr, arith}
use Rattle.std.proofs.lemmas.Bool.{and_parts, cond-true, eqb-true, leb-true, le-leb, not-true, true≢false, both_ways}
use Rattle.roster.specs.Quorums.{one_sound, all_but_faulty}
use Rattle.roster.specs.Votes.{said, votes}
use Rattle.roster.specs.declared.decision.Decision.{Decision}
use Rattle.roster.specs.declared.decision.Decision.TheVariants.{Nothing, Code}
use Rattle.settling.specs.declared.record.Record.{Record}
use Rattle.settling.specs.declared.record.Due.{Due}
use Rattle.settling.specs.declared.record.Due.TheVariants.{Flag, Vote, Decide}
use Rattle.settling.specs.Rules.{bit, decides, decides_on, due, due_for, due_from, settled, stands_out, tally}

-- the first that is due, and none before it
first_some : {A : Type 0} (b : Bool) (x y : A) (rest : Option A) → cond b (Some x) rest ≡ Some y → ((b ≡ true) × (x ≡ y)) ⊎ (rest ≡ Some y)
first_some true x y rest e = inl (refl, cc)
first_some false x y rest e = inr e

first_none : {A : Type 0} (b : Bool) (x : A) (rest : Option A) → cond b (Some x) rest ≡ None → (b ≡ false) × (rest ≡ None)
first_none true x rest e = let z : ◌≡◌ {A = ℕ} 0 1 = cc in absurd (omega arith)
first_none false x rest e = (refl, e)

none_some : {A X : Type 0} (x : A) → ◌≡◌ {A = Option A} None (Some x) → X
none_some x e = let z : ◌≡◌ {A = ℕ} 0 1 = cc in absurd (omega arith)

-- why a decision is due on what was decided below
pub data On (n t : ℕ) (row : ℕ → Option Decision) (below : Option Decision) (d : Decision) : Type 0 where
  on_zero : below ≡ Some (Code 0) → d ≡ Nothing → On n t row below d
  on_one : below ≡ Some (Code 1) → stands_out n t row ≡ true → d ≡ (tally n row).0 → On n t row below d

module _ (n t : ℕ) (r : Record) (codes flags : ℕ → Option ℕ) (below : Option Decision) where
  abbrev row : ℕ → Option Decision
  row = settled n t codes flags

  pub data Why : Due → Type 0 where
    flag_due : (v : ℕ) (f : Bool) → r.code ≡ Some v → r.flagged ≡ false → all_but_faulty n t ≤ said n codes → f ≡ leb (one_sound t) (votes n codes v) → Why (Flag f)
    vote_due : (f : Bool) → r.voted ≡ false → all_but_faulty n t ≤ said n row → f ≡ bit n t row → Why (Vote f)
    decide_due : (d : Decision) → r.decided ≡ None → On n t row below d → Why (Decide d)

  on_why : (c : ℕ) (x : Due) → below ≡ Some (Code c) → r.decided ≡ None → decides_on n t row c ≡ Some x → Why x
  on_why c x e undecided h =
      elim (first_some (eqb c 0) (Decide Nothing) x _ h) [
        | inl (z, same) ↦ subst Why same (decide_due Nothing undecided (on_zero (e ∙ ap (λ k. Some (Code k)) (eqb-true c 0 z)) refl))
        | inr g ↦ elim (first_some (eqb c 1 && stands_out n t row) (Decide (tally n row).0) x None g) [
          | inl (z, same) ↦
              let k = and_parts (eqb c 1) _ z in
              subst Why same (decide_due (tally n row).0 undecided (on_one (e ∙ ap (λ k. Some (Code k)) (eqb-true c 1 k.0)) k.1 refl))
          | inr bad ↦ none_some x bad
        ]
      ]

  decides_why : (o : Option Decision) (x : Due) → below ≡ o → r.decided ≡ None → decides n t row o ≡ Some x → Why x
  decides_why None x e undecided h = none_some x h
  decides_why (Some Nothing) x e undecided h = none_some x h
  decides_why (Some (Code c)) x e undecided h = on_why c x e undecided h

  open_why : (o : Option Decision) (x : Due) → r.decided ≡ o → cond (is_some o) None (decides n t row below) ≡ Some x → Why x
  open_why None x e h = decides_why below x refl e h
  open_why (Some d) x e h = none_some x h

  for_why : (v : ℕ) (x : Due) → r.code ≡ Some v → due_for n t r codes flags below v ≡ Some x → Why x
  for_why v x has h =
      elim (first_some (not r.flagged && leb (all_but_faulty n t) (said n codes)) (Flag (leb (one_sound t) (votes n codes v))) x _ h) [
        | inl (e, same) ↦
            let k = and_parts (not r.flagged) _ e in
            subst Why same (flag_due v _ has (not-true _ k.0) (leb-true _ _ k.1) refl)
        | inr g ↦ elim (first_some (not r.voted && leb (all_but_faulty n t) (said n row)) (Vote (bit n t row)) x _ g) [
          | inl (e, same) ↦
              let k = and_parts (not r.voted) _ e in
              subst Why same (vote_due _ (not-true _ k.0) (leb-true _ _ k.1) refl)
          | inr o ↦ open_why r.decided x refl o
        ]
      ]

  from_why : (c : Option ℕ) (x : Due) → r.code ≡ c → due_from n t r codes flags below c ≡ Some x → Why x
  from_why None x e h = none_some x h
  from_why (Some v) x e h = for_why v x e h

  pub due_why : (x : Due) → due n t r codes flags below ≡ Some x → Why x
  unfolding due
  due_why x h = from_why r.code x refl h

  -- a seat that has put and has nothing due
  pub record Idle : Type 0 where
    pub flagged : all_but_faulty n t ≤ said n codes → r.flagged ≡ true
    pub voted : all_but_faulty n t ≤ said n row → r.voted ≡ true
    pub decided_zero : below ≡ Some (Code 0) → is_some r.decided ≡ true
    pub decided_one : below ≡ Some (Code 1) → stands_out n t row ≡ true → is_some r.decided ≡ true

  done : (b : Bool) (k m : ℕ) → (not b && leb k m) ≡ false → k ≤ m → b ≡ true
  done true k m e h = refl
  done false k m e h = absurd (both_ways (leb k m) e (le-leb k m h))

  zero_due : (o : Option Decision) → o ≡ Some (Code 0) → decides n t row o ≡ None → ⊥
  zero_due o e h = none_some (Decide Nothing) (sym h ∙ ap (decides n t row) e)

  one_due : (o : Option Decision) → o ≡ Some (Code 1) → stands_out n t row ≡ true → decides n t row o ≡ None → ⊥
  one_due o e s h = none_some (Decide (tally n row).0) (sym h ∙ ap (decides n t row) e ∙ cond-true _ _ _ s)

  decided_if : (o : Option Decision) → cond (is_some o) None (decides n t row below) ≡ None → (decides n t row below ≡ None → ⊥) → is_some o ≡ true
  decided_if None h no_act = absurd (no_act h)
  decided_if (Some d) h no_act = refl

  from_idle : (c : Option ℕ) → is_some c ≡ true → due_from n t r codes flags below c ≡ None → Idle
  from_idle None s h = absurd (true≢false (sym s))
  from_idle (Some v) s h =
      let a = first_none _ (Flag (leb (one_sound t) (votes n codes v))) _ h in
      let b = first_none _ (Vote (bit n t row)) _ a.1 in
      record {
        flagged = done r.flagged _ _ a.0;
        voted = done r.voted _ _ b.0;
        decided_zero = λ e. decided_if r.decided b.1 (zero_due below e);
        decided_one = λ e s'. decided_if r.decided b.1 (one_due below e s');
      }

  pub idle_why : is_some r.code ≡ true → due n t r codes flags below ≡ None → Idle
  unfolding due
  idle_why s h = from_idle r.code s h
