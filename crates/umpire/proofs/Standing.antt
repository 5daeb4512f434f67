-- Why the ruling stands after every put. Assumes nothing.
use Rattle.std.proofs.Common.{◌≡◌, ℕ, ◌<◌, ◌≤◌, leb, is_some, Some, None, Option, sym, refl, ap, ◌∙◌, inl, inr, arith}
use Rattle.std.proofs.lemmas.Bool.{and_parts, cases_eq, cond_both, leb-true, leb-false}
use Rattle.agreement.specs.Laws.{Putter, Differ}
use Rattle.roster.specs.Counting.{member}
use Rattle.roster.specs.declared.decision.Decision.{Decision}
use Rattle.roster.specs.declared.decision.Decision.TheVariants.{Nothing, Code}
use Rattle.roster.specs.declared.roster.Roster.{Roster}
use Rattle.roster.specs.Quorums.{one_sound, all_but_faulty}
use Rattle.roster.specs.Votes.{differs, said, votes, others}
use Rattle.roster.proofs.Checks.{none_some}
use Rattle.roster.proofs.Counting.{sound_some}
use Rattle.roster.proofs.Seats.{sound_within}
use Rattle.roster.proofs.Voting.{said_bits, said_code, said_other, said_split, votes_mono}
use Rattle.umpire.specs.Laws.{sound_putter}
use Rattle.umpire.specs.Kept.{Enough, Few, Many, Missing, Stands}
use Rattle.umpire.specs.Rules.{rules_on, ruled}

module _ (r : Roster) (largest : ℕ) (puts : ℕ → Option ℕ) (within : (i v : ℕ) → puts i ≡ Some v → v ≤ largest) where
  module _ (few : (v : ℕ) → Few r puts v) (many : Enough r puts) where
    -- some sound seat has put, and of those that put something else one is sound
    two_differ : Differ r puts
    two_differ =
        let s = sound_some (λ i. is_some (puts i)) (member r.faulty) r.size.n r.size.t r.bounded (omega (arith, r.size.third)) in
        let v = said_code (puts s.seat) (and_parts (is_some (puts s.seat)) _ s.has).0 in
        let rest : r.size.t < others r.size.n puts v.0 = omega (arith, r.size.third, few v.0, said_split r.size.n puts v.0) in
        let q = sound_some (λ i. differs v.0 (puts i)) (member r.faulty) r.size.n r.size.t r.bounded rest in
        let w = said_other (puts q.seat) v.0 (and_parts (differs v.0 (puts q.seat)) _ q.has).0 in
        record {
          code = w.code;
          other = v.0;
          apart = w.apart;
          first = sound_putter r puts (differs v.0) q w.code w.said;
          second = sound_putter r puts is_some s v.0 v.1;
        }

    -- of two codes one would have enough
    not_plain : largest ≡ 1 → ⊥
    not_plain one =
        omega (arith, r.size.third, few 0, few 1, said_bits r.size.n puts (λ i v e. let small = within i v e in omega arith))

    nothing_stands : Stands r largest puts (Some Nothing)
    nothing_stands = record {
      few_votes = λ e. absurd (none_some (Some Nothing) Nothing e refl);
      missing = λ e. absurd (none_some (Some Nothing) Nothing e refl);
      many_votes = λ v e. absurd (let z : ◌≡◌ {A = ℕ} 0 1 = cc in omega arith);
      differ = λ e. two_differ;
      plain = λ e. not_plain;
      within = within;
    }

  code_stands : (code : ℕ) → Many r puts code → Stands r largest puts (Some (Code code))
  code_stands code many = record {
    few_votes = λ e. absurd (none_some (Some (Code code)) (Code code) e refl);
    missing = λ e. absurd (none_some (Some (Code code)) (Code code) e refl);
    many_votes = λ v e. let same : code ≡ v = cc in rw (sym same) many;
    differ = λ e. absurd (let z : ◌≡◌ {A = ℕ} 0 1 = cc in omega arith);
    plain = λ e one. let z : ◌≡◌ {A = ℕ} 0 1 = cc in omega arith;
    within = within;
  }

  none_stands : ((v : ℕ) → Few r puts v) → Missing r puts → Stands r largest puts None
  none_stands few fewer = record {
    few_votes = λ e. few;
    missing = λ e. fewer;
    many_votes = λ v e. absurd (none_some None (Code v) refl e);
    differ = λ e. absurd (none_some None Nothing refl e);
    plain = λ e one. none_some None Nothing refl e;
    within = within;
  }

  -- the ruling on a code, if no other code has enough puts
  module _ (code : ℕ) (rest : (v : ℕ) → (v ≡ code → ⊥) → Few r puts v) where
    few_votes : Few r puts code → (v : ℕ) → Few r puts v
    few_votes here v = elim (cases_eq v code) [ inl same ↦ rw same here | inr other ↦ rest v other ]

    rule_stands : Stands r largest puts (rules_on r.size.n r.size.t puts code)
    rule_stands =
        cond_both (leb (one_sound r.size.t) (votes r.size.n puts code)) _ _ (Stands r largest puts)
        (λ many. code_stands code (leb-true _ _ many))
        (λ few.
        cond_both (leb (all_but_faulty r.size.n r.size.t) (said r.size.n puts)) _ _ (Stands r largest puts)
        (λ many. nothing_stands (few_votes (leb-false _ _ few)) (leb-true _ _ many))
        (λ fewer. none_stands (few_votes (leb-false _ _ few)) (leb-false _ _ fewer)))

-- one seat puts a code, and what the others put stays
module _ (r : Roster) (largest : ℕ) (puts next : ℕ → Option ℕ) (seat code : ℕ) (free : puts seat ≡ None) (new : next seat ≡ Some code) (old : (i : ℕ) → 1 ≤ i → (i ≡ seat → ⊥) → next i ≡ puts i) (within : (i v : ℕ) → next i ≡ Some v → v ≤ largest) where
  stays : (v i : ℕ) → 1 ≤ i → puts i ≡ Some v → next i ≡ Some v
  stays v i lo e =
      elim (cases_eq i seat) [ inl same ↦ absurd (none_some (puts seat) v free (ap puts (sym same) ∙ e)) | inr other ↦ old i lo other ∙ e ]

  -- no other code has a new vote
  came : (v : ℕ) → (v ≡ code → ⊥) → (i : ℕ) → 1 ≤ i → next i ≡ Some v → puts i ≡ Some v
  came v other i lo e =
      elim (cases_eq i seat) [
        | inl same ↦ absurd (other (let f = ap next (sym same) ∙ e in cc))
        | inr apart ↦ sym (old i lo apart) ∙ e
      ]

  put_stays : (c : ℕ) → Putter r puts c → Putter r next c
  put_stays c p = record { seat = p.seat; is_sound = p.is_sound; put = stays c p.seat (sound_within r p.seat p.is_sound).0 p.put }

  still_differ : Differ r puts → Differ r next
  still_differ d = record { code = d.code; other = d.other; apart = d.apart; first = put_stays d.code d.first; second = put_stays d.other d.second }

  pub ruled_stands : (ruling : Option Decision) → Stands r largest puts ruling → Stands r largest next (ruled r.size.n r.size.t next code ruling)
  ruled_stands None stands =
      rule_stands r largest next within code (λ v other. omega (arith, stands.few_votes refl v, votes_mono r.size.n next puts v (came v other)))
  ruled_stands (Some d) stands = record {
    few_votes = λ e. absurd (none_some (Some d) d e refl);
    missing = λ e. absurd (none_some (Some d) d e refl);
    many_votes = λ v e. omega (arith, stands.many_votes v e, votes_mono r.size.n puts next v (stays v));
    differ = λ e. still_differ (stands.differ e);
    plain = stands.plain;
    within = within;
  }
