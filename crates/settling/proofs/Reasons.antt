-- An act that is due has its reason, and the part that it goes to takes it. Assumes nothing.
use Rattle.std.proofs.Common.{◌≡◌, ℕ, ◌*◌, ◌<◌, ◌≤◌, Bool, true, false, not, leb, is_some, Some, None, Option, sym, refl, ◌∙◌, arith}
use Rattle.std.proofs.lemmas.Bool.{false≢true, leb-false, leb-true, le-leb, and_from}
use Rattle.roster.specs.Checks.{check}
use Rattle.roster.specs.Quorums.{one_sound, all_but_faulty}
use Rattle.roster.specs.Rosters.{sound}
use Rattle.roster.specs.Votes.{said, votes}
use Rattle.roster.specs.declared.decision.Decision.{Decision}
use Rattle.roster.specs.declared.decision.Decision.TheVariants.{Code}
use Rattle.roster.specs.declared.denial.Denial.{Denial}
use Rattle.roster.proofs.Seats.{sound_seat}
use Rattle.roster.proofs.Voting.{said_split}
use Rattle.carrier.specs.Laws.{Lawful as CarrierLawful}
use Rattle.carrier.specs.Views.{put_denial as carrier_put_denial}
use Rattle.agreement.specs.Views.{put_denial}
use Rattle.settling.specs.declared.record.Due.{Due}
use Rattle.settling.specs.declared.record.Due.TheVariants.{Flag, Vote, Decide}
use Rattle.settling.specs.Layers.{Layer, as_code, decided_below, due_at, held_row, record_of, roster_of, settled_at, size_n, size_t}
use Rattle.settling.specs.Rules.{bit}
use Rattle.settling.proofs.Dues.{On, Why, due_why}
use Rattle.settling.proofs.Dues.{decide_due, flag_due, on_one, on_zero, vote_due}
use Rattle.settling.proofs.Kept.{Decided, Flagged, Kept, Voted, puts_of}
use Rattle.settling.proofs.Kept.{decided_code, decided_nothing, flagged_one, flagged_zero, voted_one, voted_zero}
use Rattle.settling.proofs.Laws.{differ_when}
use Rattle.settling.proofs.Layers.{Fit, below_sound, below_why}
use Rattle.settling.proofs.Tally.{bit_one, bit_zero, stands_why}

absent : {A : Type 0} (o : Option A) → false ≡ is_some o → o ≡ None
absent None e = refl
absent (Some x) e = absurd (false≢true e)

module _ (l : Layer) (q : ℕ) where
  abbrev n : ℕ
  n = size_n l

  abbrev t : ℕ
  t = size_t l

  abbrev third : 3 * size_t l < size_n l
  third = (roster_of l).size.third

  -- why an act is due
  abbrev pub Reason : Due → Type 0
  Reason = Why n t (record_of l q) (held_row l q 1) (held_row l q 2) (decided_below l q)

  pub reason : (x : Due) → due_at l q ≡ Some x → Reason x
  unfolding due_at
  reason x e = due_why n t (record_of l q) (held_row l q 1) (held_row l q 2) (decided_below l q) x e

  pub decide_open : (d : Decision) → Reason (Decide d) → (record_of l q).decided ≡ None
  decide_open d (decide_due c open_decision on) = open_decision

  module _ (fit : Fit l) (carried : CarrierLawful l.carrier) (kept : Kept l) (sq : sound (roster_of l) q ≡ true) where
    flag_by : (v : ℕ) (f : Bool) → puts_of l q ≡ Some v → all_but_faulty n t ≤ said n (held_row l q 1) → f ≡ leb (one_sound t) (votes n (held_row l q 1) v) → Flagged l q (as_code f)
    flag_by v true has enough e = flagged_one v has refl (leb-true _ _ (sym e))
    flag_by v false has enough e = flagged_zero v has refl (omega (arith, leb-false _ _ (sym e), said_split n (held_row l q 1) v, third))

    pub flag_reason : (f : Bool) → Reason (Flag f) → Flagged l q (as_code f)
    flag_reason f (flag_due v g has open_flag enough e) = flag_by v f (sym (kept.seats q sq).code ∙ has) enough e

    vote_by : (x : Bool) → all_but_faulty n t ≤ said n (settled_at l q) → x ≡ bit n t (settled_at l q) → Voted l q (as_code x)
    vote_by true enough e = voted_one refl (bit_one n t third (settled_at l q) (sym e) enough)
    vote_by false enough e = voted_zero refl (differ_when l fit carried q sq (bit_zero n t third (settled_at l q) (sym e) enough))

    pub vote_reason : (x : Bool) → Reason (Vote x) → Voted l q (as_code x)
    vote_reason x (vote_due y open_vote enough e) = vote_by x enough e

    decide_by : (d : Decision) → On n t (settled_at l q) (decided_below l q) d → Decided l q d
    decide_by d (on_zero e is) = decided_nothing is (below_why l q (Code 0) e)
    decide_by d (on_one e stands is) =
        let f = stands_why n t third (settled_at l q) stands in
        decided_code f.code (is ∙ f.figure) (below_why l q (Code 1) e) (omega (arith, leb-true _ _ stands, f.count))

    pub decide_reason : (d : Decision) → Reason (Decide d) → Decided l q d
    decide_reason d (decide_due c open_decision on) = decide_by d on

    four_checks : (a b c d : Bool) (e f g h : Denial) → a ≡ true → b ≡ true → c ≡ true → d ≡ true → check a e (check b f (check c g (check d h None))) ≡ None
    four_checks a b c d e f g h x y z w = rw (x, y, z, w)

    passing_check : (a : Bool) (e : Denial) (o : Option Denial) → a ≡ true → o ≡ None → check a e o ≡ None
    passing_check a e o x y = rw x y

    none_free : {A : Type 0} (o : Option A) → o ≡ None → not (is_some o) ≡ true
    none_free o e = rw e

    -- a flag that is due is taken by the carrier
    pub flag_taken : (f : Bool) → Reason (Flag f) → carrier_put_denial l.carrier q 2 ≡ None
    flag_taken f (flag_due v g has open_flag enough e) =
        four_checks _ _ _ _ _ _ _ _ fit.carrier (and_from _ _ (sound_seat (roster_of l) q sq) refl) sq
        (none_free _ (absent _ (sym open_flag ∙ (kept.seats q sq).flagged)))

    small_bit : (x : Bool) → leb (as_code x) l.below.fixed.largest ≡ true
    small_bit true = le-leb _ _ (omega (arith, fit.binary))
    small_bit false = le-leb _ _ (omega arith)

    -- and a bit by the agreement below
    pub vote_taken : (x : Bool) → Reason (Vote x) → put_denial l.below q (as_code x) ≡ None
    vote_taken x (vote_due y open_vote enough e) =
        let sb = below_sound l fit q sq in
        passing_check _ _ _ fit.below (four_checks _ _ _ _ _ _ _ _ (sound_seat l.below.fixed.roster q sb) sb (small_bit x) (none_free _ (absent _ (sym open_vote ∙ (kept.seats q sq).voted))))
