-- What each call does to the meaning of a reduction, and that it keeps what is to be kept. Assumes nothing.
use Rattle.std.proofs.Common.{◌≡◌, ℕ, ◌-◌, ◌≤◌, Bool, true, false, cond, not, ◌&&◌, eqb, leb, ◌⊎◌, List, length, get_or, is_some, Some, None, Option, sym, refl, ap, ◌∙◌, subst, ap₂, inl, inr, arith}
use Rattle.std.proofs.lemmas.List.{get_or-set_same, get_or-set_other}
use Rattle.std.proofs.lemmas.Bool.{and_left, and_right, or_from, not_from_true, cases_eq, cond-true}
use Rattle.roster.specs.Rosters.{same_roster, sound}
use Rattle.roster.specs.declared.decision.Decision.{Decision}
use Rattle.roster.proofs.Seats.{sound_within}
use Rattle.carrier.specs.Views.{View as Carried, Fixed as CarrierFixed, Put as CarrierPut, Moved as CarrierMoved}
use Rattle.carrier.proofs.Puts as carrier
use Rattle.agreement.specs.Views.{Fixed, View, Put, Moved}
use Rattle.agreement.proofs.Puts as agreement
use Rattle.settling.specs.declared.record.Record.{Record}
use Rattle.settling.specs.Layers.{Layer, after, blank, changed, matched, meaning, record_of, roster_of, with_code, with_decision, with_flag, with_vote}
use Rattle.settling.proofs.Grows.{Grows, Next, decided_grows, flagged_grows, frame, kept_next, voted_grows}
use Rattle.settling.proofs.Kept.{Decided, Flagged, Kept, Voted, puts_of}

none_some : {A X : Type 0} (o : Option A) (x : A) → o ≡ None → o ≡ Some x → X
none_some o x p q = let z : ◌≡◌ {A = ℕ} 0 1 = cc in absurd (omega arith)

-- whether the layer is matched is decided by what no call changes
same_matched : (l : Layer) (w : Carried) (b : View) (t : Bool) (xs : List Record) → w.fixed ≡ l.carrier.fixed → b.fixed ≡ l.below.fixed → matched (after l w b t xs) ≡ matched l
same_matched l w b t xs e f =
    ap₂ (λ (x : CarrierFixed) (y : Fixed). l.made && (x.matched && (y.matched && (y.plain && (eqb y.largest 1 && (same_roster x.roster y.roster && leb 1 l.largest)))))) e f

same_fixed : (l : Layer) (w : Carried) (b : View) (t : Bool) (xs : List Record) → w.fixed ≡ l.carrier.fixed → b.fixed ≡ l.below.fixed → (meaning (after l w b t xs)).fixed ≡ (meaning l).fixed
same_fixed l w b t xs e f =
    ap₂ (λ (x : CarrierFixed) (y : Fixed). record { roster = x.roster; largest = l.largest; plain = false; matched = l.made && (x.matched && (y.matched && (y.plain && (eqb y.largest 1 && (same_roster x.roster y.roster && leb 1 l.largest))))) }) e f

-- a layer is touched once a part of it is
touched_carrier : (m : Layer) → matched m ≡ true → m.carrier.untouched ≡ false → (meaning m).untouched ≡ false
touched_carrier m e h = rw (e, h)

touched_below : (m : Layer) → matched m ≡ true → m.below.untouched ≡ false → (meaning m).untouched ≡ false
touched_below m e h = or_from _ _ (not_from_true _ e) (and_right m.carrier.untouched _ (and_left _ (not m.touched) h))

touched_table : (m : Layer) → matched m ≡ true → m.touched ≡ true → (meaning m).untouched ≡ false
touched_table m e h = or_from _ _ (not_from_true _ e) (and_right m.carrier.untouched _ (and_right m.below.untouched _ (not_from_true _ h)))

and_true : (b : Bool) → (b && true) ≡ b
and_true true = refl
and_true false = refl

-- reading the table after one record was changed
module _ (l : Layer) (q : ℕ) (r : Record) (room : length l.seats ≡ 10) (low : 1 ≤ q) (high : q ≤ 10) where
  abbrev table : List Record
  table = changed l q r

  record_here : get_or table (q - 1) blank ≡ r
  record_here = get_or-set_same l.seats (q - 1) r blank (omega arith)

  record_there : (p : ℕ) → 1 ≤ p → (p ≡ q → ⊥) → get_or table (p - 1) blank ≡ record_of l p
  record_there p lo ne = get_or-set_other l.seats (q - 1) (p - 1) r blank (λ e. ne (omega arith))

  record_cases : (i : ℕ) → (get_or table (i - 1) blank ≡ record_of l i) ⊎ ((record_of l i ≡ record_of l q) × (get_or table (i - 1) blank ≡ r))
  record_cases i = elim (cases_eq (i - 1) (q - 1)) [
    | inr ne ↦ inl (get_or-set_other l.seats (q - 1) (i - 1) r blank ne)
    | inl e ↦ inr (ap (λ k. get_or l.seats k blank) e, ap (λ k. get_or table k blank) e ∙ record_here)
  ]

-- a move of the carrier
module _ (l : Layer) (w : Carried) (moved : CarrierMoved l.carrier w) where
  abbrev pub carried : Layer
  carried = after l w l.below l.touched l.seats

  carried_grows : Grows l carried
  carried_grows = record { carrier_fixed = moved.fixed; below_fixed = refl; puts = λ i s v e. moved.puts i s ∙ e; held = moved.held; decided = λ i d e. e }

  pub carried_kept : Kept l → Kept carried
  carried_kept kept =
      kept_next l carried carried_grows kept
      (λ p sp. frame l carried carried_grows p (kept.seats p sp) refl (moved.puts p) refl)
      (λ i c e. kept.within i c (sym (moved.puts i 1) ∙ e))

  pub carried_moves : matched l ≡ true → Moved (meaning l) (meaning carried)
  carried_moves m =
      let same = same_matched l w l.below l.touched l.seats moved.fixed refl in
      record {
        fixed = same_fixed l w l.below l.touched l.seats moved.fixed refl;
        touched = touched_carrier carried (same ∙ m) moved.touched;
        puts = λ i. ap₂ (λ b o. cond b o None) same (moved.puts i 1);
        decided = λ i d e. ap (λ b. cond b (record_of l i).decided None) same ∙ e;
      }

-- a move of the agreement below
module _ (l : Layer) (b : View) (moved : Moved l.below b) where
  abbrev pub lowered : Layer
  lowered = after l l.carrier b l.touched l.seats

  lowered_grows : Grows l lowered
  lowered_grows = record { carrier_fixed = refl; below_fixed = moved.fixed; puts = λ i s v e. e; held = λ i o s v e. e; decided = moved.decided }

  pub lowered_kept : Kept l → Kept lowered
  lowered_kept kept =
      kept_next l lowered lowered_grows kept
      (λ p sp. frame l lowered lowered_grows p (kept.seats p sp) refl (λ s. refl) (moved.puts p))
      kept.within

  pub lowered_moves : matched l ≡ true → Moved (meaning l) (meaning lowered)
  lowered_moves m =
      let same = same_matched l l.carrier b l.touched l.seats refl moved.fixed in
      record {
        fixed = same_fixed l l.carrier b l.touched l.seats refl moved.fixed;
        touched = touched_below lowered (same ∙ m) moved.touched;
        puts = λ i. ap (λ c. cond c (puts_of l i) None) same;
        decided = λ i d e. ap (λ c. cond c (record_of l i).decided None) same ∙ e;
      }

-- an act of one sound seat, which changes its record
module _ (l : Layer) (q : ℕ) (sq : sound (roster_of l) q ≡ true) (room : length l.seats ≡ 10) where
  low : 1 ≤ q
  low = (sound_within (roster_of l) q sq).0

  high : q ≤ 10
  high = omega (arith, (sound_within (roster_of l) q sq).1, (roster_of l).size.few)

  abbrev own : Record
  own = record_of l q

  abbrev acted : Carried → View → Record → Layer
  acted w b r = after l w b true (changed l q r)

  -- the seat itself, and all others
  all_seats : (w : Carried) (b : View) (r : Record) (g : Grows l (acted w b r)) → Kept l → ((p s : ℕ) → (p ≡ q → ⊥) → w.puts p s ≡ l.carrier.puts p s) → ((p : ℕ) → (p ≡ q → ⊥) → b.puts p ≡ l.below.puts p) → Next l (acted w b r) g q → (p : ℕ) → sound (roster_of l) p ≡ true → Next l (acted w b r) g p
  all_seats w b r g kept puts bits here p sp = elim (cases_eq p q) [
    | inl e ↦ subst (Next l (acted w b r) g) (sym e) here
    | inr ne ↦ frame l (acted w b r) g p (kept.seats p sp) (record_there l q r room low high p (sound_within (roster_of l) p sp).0 ne) (λ s. puts p s ne) (bits p ne)
  ]

  -- decisions stay where the record's stays
  decided_same : (r : Record) → r.decided ≡ own.decided → (i : ℕ) → (get_or (changed l q r) (i - 1) blank).decided ≡ (record_of l i).decided
  decided_same r e i = elim (record_cases l q r room low high i) [
    | inl same ↦ ap (λ (x : Record). x.decided) same
    | inr (a, b) ↦ ap (λ (x : Record). x.decided) b ∙ e ∙ sym (ap (λ (x : Record). x.decided) a)
  ]

  -- a put
  module _ (v : ℕ) (w : Carried) (p : CarrierPut l.carrier q 1 v w) (free : puts_of l q ≡ None) (small : v ≤ l.largest) where
    abbrev pub put : Layer
    put = acted w l.below (with_code own v)

    put_grows : Grows l put
    put_grows = record {
      carrier_fixed = p.fixed;
      below_fixed = refl;
      puts = carrier.put_grows l.carrier q 1 v w p free;
      held = λ i o s c e. p.held i o s ∙ e;
      decided = λ i d e. e;
    }

    put_next : Kept l → Next l put put_grows q
    put_next kept =
        let s = kept.seats q sq in
        let here = record_here l q (with_code own v) room low high in
        let slot : w.puts q 2 ≡ l.carrier.puts q 2 = carrier.put_slot l.carrier q 1 v w p q 2 (λ e. omega arith) in
        record {
          code = ap (λ (x : Record). x.code) here ∙ sym (carrier.put_here l.carrier q 1 v w p);
          flagged = ap (λ (x : Record). x.flagged) here ∙ s.flagged ∙ sym (ap is_some slot);
          voted = ap (λ (x : Record). x.voted) here ∙ s.voted;
          flag = λ f e. inl (sym slot ∙ e);
          vote = λ x e. inl e;
          decision = λ d e. inl (ap (λ (x : Record). x.decided) (sym here) ∙ e);
        }

    put_within : Kept l → (i c : ℕ) → w.puts i 1 ≡ Some c → c ≤ l.largest
    put_within kept i c e = elim (carrier.put_cases l.carrier q 1 v w p i 1) [
      | inl same ↦ kept.within i c (sym same ∙ e)
      | inr (x, y) ↦
          let mine : w.puts i 1 ≡ Some v = subst (λ k. w.puts k 1 ≡ Some v) (sym x) (carrier.put_here l.carrier q 1 v w p) in
          let is : v ≡ c = cc in
          subst (λ k. k ≤ l.largest) is small
    ]

    pub put_kept : Kept l → Kept put
    put_kept kept =
        kept_next l put put_grows kept
        (all_seats w l.below (with_code own v) put_grows kept (λ j s ne. carrier.put_seat l.carrier q 1 v w p j s ne) (λ j ne. refl) (put_next kept))
        (put_within kept)

    pub put_puts : matched l ≡ true → Put (meaning l) q v (meaning put)
    put_puts m =
        let same = same_matched l w l.below true (changed l q (with_code own v)) p.fixed refl in
        record {
          fixed = same_fixed l w l.below true (changed l q (with_code own v)) p.fixed refl;
          touched = touched_carrier put (same ∙ m) p.touched;
          puts = λ i. cond-true _ _ _ (same ∙ m) ∙ p.puts i 1 ∙ ap (λ b. cond b (Some v) (puts_of l i)) (and_true (eqb i q)) ∙ ap (λ o. cond (eqb i q) (Some v) o) (sym (cond-true _ _ _ m));
          decided = λ i. ap₂ (λ b o. cond b o None) same (decided_same (with_code own v) refl i);
        }

  -- a flag
  module _ (f : ℕ) (w : Carried) (p : CarrierPut l.carrier q 2 f w) (free : l.carrier.puts q 2 ≡ None) where
    abbrev pub flagged : Layer
    flagged = acted w l.below (with_flag own)

    flag_grows : Grows l flagged
    flag_grows = record {
      carrier_fixed = p.fixed;
      below_fixed = refl;
      puts = carrier.put_grows l.carrier q 2 f w p free;
      held = λ i o s c e. p.held i o s ∙ e;
      decided = λ i d e. e;
    }

    flag_slot : (i : ℕ) → w.puts i 1 ≡ puts_of l i
    flag_slot i = carrier.put_slot l.carrier q 2 f w p i 1 (λ e. omega arith)

    flag_next : Kept l → Flagged l q f → Next l flagged flag_grows q
    flag_next kept why =
        let s = kept.seats q sq in
        let here = record_here l q (with_flag own) room low high in
        let mine = carrier.put_here l.carrier q 2 f w p in
        record {
          code = ap (λ (x : Record). x.code) here ∙ s.code ∙ sym (flag_slot q);
          flagged = ap (λ (x : Record). x.flagged) here ∙ sym (ap is_some mine);
          voted = ap (λ (x : Record). x.voted) here ∙ s.voted;
          flag = λ g e. let is : f ≡ g = cc in inr (flagged_grows l flagged flag_grows q g (subst (Flagged l q) is why));
          vote = λ x e. inl e;
          decision = λ d e. inl (ap (λ (x : Record). x.decided) (sym here) ∙ e);
        }

    pub flag_kept : Kept l → Flagged l q f → Kept flagged
    flag_kept kept why =
        kept_next l flagged flag_grows kept
        (all_seats w l.below (with_flag own) flag_grows kept (λ j s ne. carrier.put_seat l.carrier q 2 f w p j s ne) (λ j ne. refl) (flag_next kept why))
        (λ i c e. kept.within i c (sym (flag_slot i) ∙ e))

    pub flag_moves : matched l ≡ true → Moved (meaning l) (meaning flagged)
    flag_moves m =
        let same = same_matched l w l.below true (changed l q (with_flag own)) p.fixed refl in
        record {
          fixed = same_fixed l w l.below true (changed l q (with_flag own)) p.fixed refl;
          touched = touched_carrier flagged (same ∙ m) p.touched;
          puts = λ i. ap₂ (λ b o. cond b o None) same (flag_slot i);
          decided = λ i d e. ap₂ (λ b o. cond b o None) same (decided_same (with_flag own) refl i) ∙ e;
        }

  -- a bit
  module _ (x : ℕ) (b : View) (p : Put l.below q x b) (free : l.below.puts q ≡ None) where
    abbrev pub voted : Layer
    voted = acted l.carrier b (with_vote own)

    vote_grows : Grows l voted
    vote_grows = record {
      carrier_fixed = refl;
      below_fixed = p.fixed;
      puts = λ i s c e. e;
      held = λ i o s c e. e;
      decided = λ i d e. p.decided i ∙ e;
    }

    vote_next : Kept l → Voted l q x → Next l voted vote_grows q
    vote_next kept why =
        let s = kept.seats q sq in
        let here = record_here l q (with_vote own) room low high in
        let mine = agreement.put_here l.below q x b p in
        record {
          code = ap (λ (y : Record). y.code) here ∙ s.code;
          flagged = ap (λ (y : Record). y.flagged) here ∙ s.flagged;
          voted = ap (λ (y : Record). y.voted) here ∙ sym (ap is_some mine);
          flag = λ f e. inl e;
          vote = λ y e. let is : x ≡ y = cc in inr (voted_grows l voted vote_grows q y (subst (Voted l q) is why));
          decision = λ d e. inl (ap (λ (y : Record). y.decided) (sym here) ∙ e);
        }

    pub vote_kept : Kept l → Voted l q x → Kept voted
    vote_kept kept why =
        kept_next l voted vote_grows kept
        (all_seats l.carrier b (with_vote own) vote_grows kept (λ j s ne. refl) (λ j ne. agreement.put_seat l.below q x b p j ne) (vote_next kept why))
        kept.within

    pub vote_moves : matched l ≡ true → Moved (meaning l) (meaning voted)
    vote_moves m =
        let same = same_matched l l.carrier b true (changed l q (with_vote own)) refl p.fixed in
        record {
          fixed = same_fixed l l.carrier b true (changed l q (with_vote own)) refl p.fixed;
          touched = touched_below voted (same ∙ m) p.touched;
          puts = λ i. ap (λ c. cond c (puts_of l i) None) same;
          decided = λ i d e. ap₂ (λ c o. cond c o None) same (decided_same (with_vote own) refl i) ∙ e;
        }

  -- a decision
  module _ (d : Decision) (free : own.decided ≡ None) where
    abbrev pub decided : Layer
    decided = acted l.carrier l.below (with_decision own d)

    decide_grows : Grows l decided
    decide_grows = record { carrier_fixed = refl; below_fixed = refl; puts = λ i s c e. e; held = λ i o s c e. e; decided = λ i x e. e }

    decide_next : Kept l → Decided l q d → Next l decided decide_grows q
    decide_next kept why =
        let s = kept.seats q sq in
        let here = record_here l q (with_decision own d) room low high in
        record {
          code = ap (λ (y : Record). y.code) here ∙ s.code;
          flagged = ap (λ (y : Record). y.flagged) here ∙ s.flagged;
          voted = ap (λ (y : Record). y.voted) here ∙ s.voted;
          flag = λ f e. inl e;
          vote = λ y e. inl e;
          decision = λ c e.
              let mine : (get_or (changed l q (with_decision own d)) (q - 1) blank).decided ≡ Some d = ap (λ (y : Record). y.decided) here in
              let is : d ≡ c = cc in
              inr (decided_grows l decided decide_grows q c (subst (Decided l q) is why));
        }

    pub decide_kept : Kept l → Decided l q d → Kept decided
    decide_kept kept why =
        kept_next l decided decide_grows kept
        (all_seats l.carrier l.below (with_decision own d) decide_grows kept (λ j s ne. refl) (λ j ne. refl) (decide_next kept why))
        kept.within

    decided_more : (i : ℕ) (c : Decision) → (record_of l i).decided ≡ Some c → (get_or (changed l q (with_decision own d)) (i - 1) blank).decided ≡ Some c
    decided_more i c e = elim (record_cases l q (with_decision own d) room low high i) [
      | inl same ↦ ap (λ (x : Record). x.decided) same ∙ e
      | inr (a, b) ↦ none_some own.decided c free (ap (λ (x : Record). x.decided) (sym a) ∙ e)
    ]

    pub decide_moves : matched l ≡ true → Moved (meaning l) (meaning decided)
    decide_moves m = record {
      fixed = refl;
      touched = touched_table decided m refl;
      puts = λ i. refl;
      decided = λ i c e. cond-true _ _ _ m ∙ decided_more i c (sym (cond-true _ _ _ m) ∙ e);
    }
