-- What holdings, puts and decisions that only grow leave as it was. Assumes nothing.
use Rattle.std.proofs.Common.{◌≡◌, ℕ, ◌≤◌, true, ◌⊎◌, is_some, Some, None, Option, sym, refl, ap, ◌∙◌, subst, inl, ⊎_elim, arith}
use Rattle.roster.specs.Rosters.{sound}
use Rattle.roster.specs.declared.decision.Decision.{Decision}
use Rattle.roster.specs.declared.denial.Denial.{Denial}
use Rattle.roster.proofs.Voting.{Covers, passing_covers}
use Rattle.agreement.specs.Laws.{Putter, Differ}
use Rattle.settling.specs.declared.record.Record.{Record}
use Rattle.settling.specs.Layers.{Layer, held_row, record_of, roster_of, settled_at, size_n, size_t, told}
use Rattle.settling.specs.Rules.{is_code}
use Rattle.settling.proofs.Kept.{Decided, Flagged, Kept, Seat, Voted, puts_of}
use Rattle.settling.proofs.Kept.{decided_code, decided_nothing, flagged_one, flagged_zero, voted_one, voted_zero}
use Rattle.settling.proofs.Layers.{fixed_same, with_fixed}
use Rattle.settling.proofs.Settled.{settled_covers, votes_covers, others_covers}
use Rattle.settling.proofs.Tally.{StandsOut, leans}

told_grows : {A : Type 0} (d : Option Denial) (o p : Option A) → ((x : A) → o ≡ Some x → p ≡ Some x) → (x : A) → told d o ≡ Some x → told d p ≡ Some x
told_grows None o p h x e = h x e
told_grows (Some d) o p h x e = e

pub record Grows (l m : Layer) : Type 0 where
  pub carrier_fixed : m.carrier.fixed ≡ l.carrier.fixed
  pub below_fixed : m.below.fixed ≡ l.below.fixed
  pub puts : (i s v : ℕ) → l.carrier.puts i s ≡ Some v → m.carrier.puts i s ≡ Some v
  pub held : (i o s v : ℕ) → l.carrier.held i o s ≡ Some v → m.carrier.held i o s ≡ Some v
  pub decided : (i : ℕ) (d : Decision) → l.below.decided i ≡ Some d → m.below.decided i ≡ Some d

module _ (l m : Layer) (g : Grows l m) where
  -- the layer after it, with what stays the same
  abbrev pub grown : Layer
  grown = with_fixed m l.carrier.fixed l.below.fixed

  abbrev n : ℕ
  n = size_n l

  rows_grow : (p s : ℕ) → Covers n (held_row l p s) (held_row grown p s)
  unfolding held_row
  rows_grow p s j v lo hi e = told_grows _ _ _ (λ x. g.held p j s x) v e

  settled_grows : (p : ℕ) → Covers n (settled_at l p) (settled_at grown p)
  settled_grows p = settled_covers n (size_t l) (held_row l p 1) (held_row grown p 1) (rows_grow p 1) (held_row l p 2) (held_row grown p 2) (rows_grow p 2)

  putter_grows : (c : ℕ) → Putter (roster_of l) (puts_of l) c → Putter (roster_of l) (puts_of grown) c
  putter_grows c x = record { seat = x.seat; is_sound = x.is_sound; put = g.puts x.seat 1 c x.put }

  differ_grows : Differ (roster_of l) (puts_of l) → Differ (roster_of l) (puts_of grown)
  differ_grows d = record { code = d.code; other = d.other; apart = d.apart; first = putter_grows d.code d.first; second = putter_grows d.other d.second }

  pub flagged_grows : (p f : ℕ) → Flagged l p f → Flagged grown p f
  flagged_grows p f (flagged_one v e x k) = flagged_one v (g.puts p 1 v e) x (omega (arith, votes_covers n (size_t l) (held_row l p 1) (held_row grown p 1) (rows_grow p 1) v))
  flagged_grows p f (flagged_zero v e x k) = flagged_zero v (g.puts p 1 v e) x (omega (arith, others_covers n (size_t l) (held_row l p 1) (held_row grown p 1) (rows_grow p 1) v))

  stands_grows : (p : ℕ) → StandsOut n (size_t l) (settled_at l p) → StandsOut n (size_t l) (settled_at grown p)
  stands_grows p s = record {
    code = s.code;
    enough = omega (arith, s.enough, passing_covers (is_code s.code) refl n (settled_at l p) (settled_at grown p) (settled_grows p));
    rest = omega (arith, s.rest, passing_covers (leans s.code) refl n (settled_at l p) (settled_at grown p) (settled_grows p));
  }

  pub voted_grows : (p x : ℕ) → Voted l p x → Voted grown p x
  voted_grows p x (voted_one e s) = voted_one e (stands_grows p s)
  voted_grows p x (voted_zero e d) = voted_zero e (differ_grows d)

  pub decided_grows : (p : ℕ) (d : Decision) → Decided l p d → Decided grown p d
  decided_grows p d (decided_nothing e b) = decided_nothing e (g.decided p _ b)
  decided_grows p d (decided_code v e b k) =
      decided_code v e (g.decided p _ b) (omega (arith, passing_covers (is_code v) refl n (settled_at l p) (settled_at grown p) (settled_grows p)))

  -- a seat after a call: its record still is what the parts say, and whatever is new has its reason
  pub record Next (p : ℕ) : Type 0 where
    pub code : (record_of m p).code ≡ puts_of m p
    pub flagged : (record_of m p).flagged ≡ is_some (m.carrier.puts p 2)
    pub voted : (record_of m p).voted ≡ is_some (m.below.puts p)
    pub flag : (f : ℕ) → m.carrier.puts p 2 ≡ Some f → (l.carrier.puts p 2 ≡ Some f) ⊎ Flagged grown p f
    pub vote : (x : ℕ) → m.below.puts p ≡ Some x → (l.below.puts p ≡ Some x) ⊎ Voted grown p x
    pub decision : (d : Decision) → (record_of m p).decided ≡ Some d → ((record_of l p).decided ≡ Some d) ⊎ Decided grown p d

  -- a seat that did nothing
  pub frame : (p : ℕ) → Seat l p → record_of m p ≡ record_of l p → ((s : ℕ) → m.carrier.puts p s ≡ l.carrier.puts p s) → m.below.puts p ≡ l.below.puts p → Next p
  frame p s same puts bits = record {
    code = ap (λ (r : Record). r.code) same ∙ s.code ∙ sym (puts 1);
    flagged = ap (λ (r : Record). r.flagged) same ∙ s.flagged ∙ sym (ap is_some (puts 2));
    voted = ap (λ (r : Record). r.voted) same ∙ s.voted ∙ sym (ap is_some bits);
    flag = λ f e. inl (sym (puts 2) ∙ e);
    vote = λ x e. inl (sym bits ∙ e);
    decision = λ d e. inl (ap (λ (r : Record). r.decided) (sym same) ∙ e);
  }

  pub kept_next : Kept l → ((p : ℕ) → sound (roster_of l) p ≡ true → Next p) → ((i c : ℕ) → puts_of m i ≡ Some c → c ≤ m.largest) → Kept m
  kept_next kept next within =
      let grown_kept : Kept grown = record {
        seats = λ p sp.
            let x = next p sp in
            let s = kept.seats p sp in
            record {
              code = x.code;
              flagged = x.flagged;
              voted = x.voted;
              flag = λ f e. ⊎_elim (λ old. flagged_grows p f (s.flag f old)) (λ new. new) (x.flag f e);
              vote = λ y e. ⊎_elim (λ old. voted_grows p y (s.vote y old)) (λ new. new) (x.vote y e);
              decision = λ d e. ⊎_elim (λ old. decided_grows p d (s.decision d old)) (λ new. new) (x.decision d e);
            };
        within = within;
      } in
      subst Kept (fixed_same m l.carrier.fixed l.below.fixed g.carrier_fixed g.below_fixed) grown_kept
