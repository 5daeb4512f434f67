-- Why an umpire is an agreement. Only proofs: nothing here needs to be believed. Assumes nothing.
use Rattle.std.specs.Prelude.{◌≡◌, ℕ, ◌≤◌, Bool, true, false, not, ◌&&◌, is_some, Some, None, Option, ◌==◌, ◌≢◌, refl}
use Rattle.std.proofs.Common.{sym, ap, ◌∙◌, inl, inr, arith}
use Rattle.std.proofs.lemmas.Bool.{and_parts, and_cases, and_from, and_left, both_ways, cond-true, cond-false, eqb-true, not-false, not-true}
use Rattle.agreement.specs.Laws.{Lawful, Putter, Differ}
use Rattle.roster.specs.Counting.{Some as Seat, but, count, member}
use Rattle.roster.specs.declared.decision.Decision.{Decision}
use Rattle.roster.specs.declared.decision.Decision.TheVariants.{Nothing, Code}
use Rattle.roster.specs.declared.roster.Roster.{Roster}
use Rattle.roster.specs.Rosters.{sound}
use Rattle.roster.specs.Votes.{by_seat, is}
use Rattle.roster.proofs.Checks.{guarded_none, guarded_some, none_some}
use Rattle.roster.proofs.Counting.{count_mono, count_none, many_sound, none_has, sound_some}
use Rattle.roster.proofs.Seats.{sound_from, sound_within}
use Rattle.roster.proofs.Voting.{blank_seat, said_is}
use Rattle.umpire.specs.Calls.{has_choice}
use Rattle.umpire.specs.declared.umpire.Umpire.{Umpire}
use Rattle.umpire.specs.Kept.{Enough, Many, Stands, Kept}
use Rattle.umpire.specs.Meaning.{seated, owed, umpire_view}

pub sound_putter : (r : Roster) (puts : ℕ → Option ℕ) (test : Option ℕ → Bool) (s : Seat r.size.n (but (λ i. test (puts i)) (member r.faulty))) (v : ℕ) → puts s.seat ≡ Some v → Putter r puts v
sound_putter r puts test s v e = record {
  seat = s.seat;
  is_sound = sound_from r s.seat s.low s.high (and_parts (test (puts s.seat)) _ s.has).1;
  put = e;
}

-- of enough seats that put v one is sound
votes_sound : (r : Roster) (puts : ℕ → Option ℕ) (v : ℕ) → Many r puts v → Putter r puts v
votes_sound r puts v many =
    let s = sound_some (λ i. is v (puts i)) (member r.faulty) r.size.n r.size.t r.bounded (omega arith) in
    sound_putter r puts (is v) s v (said_is (puts s.seat) v (and_parts (is v (puts s.seat)) _ s.has).0)

-- where every sound seat has put, enough have
all_said : (r : Roster) (puts : ℕ → Option ℕ) → ((i : ℕ) → sound r i ≡ true → is_some (puts i) ≡ true) → Enough r puts
all_said r puts every =
    let more = count_mono (λ i. not (member r.faulty i)) (λ i. is_some (puts i)) r.size.n (λ i lo hi e. every i (sound_from r i lo hi e)) in
    omega (arith, many_sound (member r.faulty) r.size.n r.size.t r.bounded)

-- there is a ruling once every sound seat has put
made : (r : Roster) (largest : ℕ) (puts : ℕ → Option ℕ) (ruling : Option Decision) → Stands r largest puts ruling → ((i : ℕ) → sound r i ≡ true → is_some (puts i) ≡ true) → is_some ruling ≡ true
made r largest puts None stands every = absurd (omega (arith, stands.missing refl, all_said r puts every))
made r largest puts (Some d) stands every = refl

given_of : (ruled is_sound has : Bool) → (ruled && (is_sound && not has)) ≡ false → ruled ≡ true → is_sound ≡ true → has ≡ true
given_of ruled is_sound has e one two =
    elim (and_cases ruled (is_sound && not has) e) [
      | inl none ↦ absurd (both_ways ruled none one)
      | inr rest ↦ elim (and_cases is_sound (not has) rest) [ inl faulty ↦ absurd (both_ways is_sound faulty two) | inr there ↦ not-false has there ]
    ]

some_same : (x : Option Decision) (c d : Decision) → x ≡ Some c → x ≡ Some d → c ≡ d
some_same x c d e f = cc

module _ (u : Umpire) where
  -- a decision is the ruling of a matched umpire
  ruling_of : Kept u → (i : ℕ) (d : Decision) → (umpire_view u).decided i ≡ Some d → (has_choice u.largest ≡ true) × (u.ruling ≡ Some d)
  ruling_of kept i d e =
      let there = guarded_some (seated u.roster u.largest i) (by_seat u.given i) d e in
      let matched = (and_parts (has_choice u.largest) (sound u.roster i) there.0).0 in
      (matched, (kept matched).1 i d there.1)

  -- what a sound seat put is its put
  seen : has_choice u.largest ≡ true → (c : ℕ) → Putter u.roster (by_seat u.puts) c → Putter u.roster (umpire_view u).puts c
  seen matched c p = record {
    seat = p.seat;
    is_sound = p.is_sound;
    put = cond-true _ _ _ (and_from _ _ matched p.is_sound) ∙ p.put;
  }

  from_put : Kept u → (i c : ℕ) → (umpire_view u).decided i ≡ Some (Code c) → Putter u.roster (umpire_view u).puts c
  from_put kept i c e =
      let why = ruling_of kept i (Code c) e in
      seen why.0 c (votes_sound u.roster (by_seat u.puts) c ((kept why.0).0.many_votes c why.1))

  differ : Kept u → (i : ℕ) → (umpire_view u).decided i ≡ Some Nothing → Differ u.roster (umpire_view u).puts
  differ kept i e =
      let why = ruling_of kept i Nothing e in
      let two = (kept why.0).0.differ why.1 in
      record {
        code = two.code;
        other = two.other;
        apart = two.apart;
        first = seen why.0 two.code two.first;
        second = seen why.0 two.other two.second;
      }

  plain : Kept u → (umpire_view u).fixed.plain ≡ true → (i : ℕ) → (umpire_view u).decided i ≢ Some Nothing
  plain kept e i d =
      let why = ruling_of kept i Nothing d in
      (kept why.0).0.plain why.1 (eqb-true u.largest 1 e)

  ends : Kept u → (umpire_view u).still ≡ true → ((i : ℕ) → sound u.roster i ≡ true → is_some ((umpire_view u).puts i) ≡ true) → (i : ℕ) → sound u.roster i ≡ true → is_some ((umpire_view u).decided i) ≡ true
  ends kept still every i is_sound =
      let parts = and_parts (has_choice u.largest) (count (owed u.roster u.ruling u.given) u.roster.size.n == 0) still in
      let seat = sound_within u.roster i is_sound in
      let none = none_has (owed u.roster u.ruling u.given) u.roster.size.n i seat.0 seat.1 (eqb-true _ 0 parts.1) in
      let put = λ (j : ℕ) (s : sound u.roster j ≡ true). sym (ap is_some (cond-true (seated u.roster u.largest j) (by_seat u.puts j) None (and_from _ _ parts.0 s))) ∙ every j s in
      let ruled = made u.roster u.largest (by_seat u.puts) u.ruling (kept parts.0).0 put in
      ap is_some (cond-true _ _ _ (and_from _ _ parts.0 is_sound)) ∙ given_of (is_some u.ruling) (sound u.roster i) (is_some (by_seat u.given i)) none ruled is_sound

  within : Kept u → (i c : ℕ) → (umpire_view u).puts i ≡ Some c → c ≤ u.largest
  within kept i c e =
      let there = guarded_some (seated u.roster u.largest i) (by_seat u.puts i) c e in
      (kept (and_parts (has_choice u.largest) (sound u.roster i) there.0).0).0.within i c there.1

  -- an untouched umpire is ill-matched or blank
  blank_or : {P : Type 0} → (umpire_view u).untouched ≡ true → (has_choice u.largest ≡ false → P) → (u.touched ≡ false → P) → P
  blank_or e ill blank = elim (and_cases (has_choice u.largest) u.touched (not-true _ e)) [ inl a ↦ ill a | inr b ↦ blank b ]

  unseated : has_choice u.largest ≡ false → (i : ℕ) → seated u.roster u.largest i ≡ false
  unseated e i = and_left _ _ e

  no_put : (umpire_view u).untouched ≡ true → (i : ℕ) → (umpire_view u).puts i ≡ None
  no_put e i =
      blank_or e (λ ill. cond-false _ _ _ (unseated ill i)) (λ b. guarded_none (seated u.roster u.largest i) _ (blank_seat u.puts 10 i (u.unput b)))

  no_decision : (umpire_view u).untouched ≡ true → (i : ℕ) → (umpire_view u).decided i ≡ None
  no_decision e i =
      blank_or e (λ ill. cond-false _ _ _ (unseated ill i)) (λ b. guarded_none (seated u.roster u.largest i) _ (blank_seat u.given 10 i (u.ungiven b)))

  blank_stands : u.touched ≡ false → Stands u.roster u.largest (by_seat u.puts) u.ruling
  blank_stands b =
      let none = λ (i : ℕ). blank_seat u.puts 10 i (u.unput b) in
      record {
        few_votes = λ e v. omega (arith, count_none (λ i. is v (by_seat u.puts i)) u.roster.size.n (λ i. ap (is v) (none i)));
        missing = λ e. omega (arith, count_none (λ i. is_some (by_seat u.puts i)) u.roster.size.n (λ i. ap is_some (none i)), u.roster.size.third);
        many_votes = λ v e. absurd (none_some u.ruling (Code v) (u.unruled b) e);
        differ = λ e. absurd (none_some u.ruling Nothing (u.unruled b) e);
        plain = λ e one. none_some u.ruling Nothing (u.unruled b) e;
        within = λ i v e. absurd (none_some (by_seat u.puts i) v (none i) e);
      }

  pub fresh_kept : (umpire_view u).untouched ≡ true → Kept u
  fresh_kept e matched =
      blank_or e (λ ill. absurd (both_ways (has_choice u.largest) ill matched)) (λ b. (blank_stands b, λ i d g. absurd (none_some (by_seat u.given i) d (blank_seat u.given 10 i (u.ungiven b)) g)))

  pub umpire_lawful : Kept u → Lawful (umpire_view u)
  umpire_lawful kept = record {
    one = λ i j c d si sj ei ej. some_same u.ruling c d (ruling_of kept i c ei).1 (ruling_of kept j d ej).1;
    from_put = λ i c si e. from_put kept i c e;
    differ = λ i si e. differ kept i e;
    plain = λ e i si d. plain kept e i d;
    ends = ends kept;
    within = within kept;
    matched = λ still. (and_parts (has_choice u.largest) _ still).0;
    no_put = no_put;
    no_decision = no_decision;
  }
