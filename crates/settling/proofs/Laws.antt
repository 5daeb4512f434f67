-- Why a reduction is an agreement, by the laws of the carrier and of the agreement that it stands on. Assumes nothing.
use Rattle.std.proofs.Common.{◌≡◌, ℕ, zero, suc, ◌-◌, ◌*◌, ◌<◌, ◌≤◌, Bool, true, false, cond, not, ◌&&◌, ◌||◌, ◌⊎◌, get_or, replicate, is_some, Some, None, Option, sym, refl, ap, ◌∙◌, inl, inr, arith}
use Rattle.std.proofs.lemmas.Bool.{false≢true, and_parts, cases_eq, cond-true, not-true}
use Rattle.roster.specs.Counting.{both}
use Rattle.roster.specs.Quorums.{all_but_faulty, sound_rest}
use Rattle.roster.specs.Rosters.{sound}
use Rattle.roster.specs.Votes.{differs, is, passing, said}
use Rattle.roster.specs.declared.decision.Decision.{Decision}
use Rattle.roster.specs.declared.decision.Decision.TheVariants.{Nothing, Code}
use Rattle.roster.proofs.Counting.{count_both, count_some}
use Rattle.roster.proofs.Seats.{all_at, implied, sound_within, sound_many, sound_one}
use Rattle.roster.proofs.Voting.{Covers, passing_covers, said_is, said_other}
use Rattle.carrier.specs.Laws.{Lawful as CarrierLawful}
use Rattle.carrier.specs.Views.{is_slot}
use Rattle.agreement.specs.Laws.{Lawful, Putter, Differ}
use Rattle.settling.specs.declared.record.Record.{Record}
use Rattle.settling.specs.Layers.{Layer, blank, decided_below, due_at, held_row, idle, is_idle, matched, meaning, record_of, roster_of, settled_at, size_n, size_t}
use Rattle.settling.specs.Rules.{is_code, is_nothing, stands_out, support}
use Rattle.settling.proofs.Dues.{Idle, idle_why}
use Rattle.settling.proofs.Kept.{Decided, Flagged, Kept, Voted, puts_of}
use Rattle.settling.proofs.Kept.{decided_code, decided_nothing, flagged_one, flagged_zero, voted_one, voted_zero}
use Rattle.settling.proofs.Layers.{Fit, below_is, below_sound, fit_why, held_is, held_why, rows_agree, sound_below}
use Rattle.settling.proofs.Settled.{Settles, on_code, on_nothing, settled_covers, settled_one, settled_why, votes_covers, others_covers, why_settled}
use Rattle.settling.proofs.Tally.{StandsOut, TwoFigures, is_code_why, is_nothing_why, leans, leans_why, stands_when, support_seat}

some_is : {A : Type 0} (o : Option A) (x : A) → o ≡ Some x → is_some o ≡ true
some_is o x e = ap is_some e

some_of : {A : Type 0} (o : Option A) → is_some o ≡ true → (x : A) × (o ≡ Some x)
some_of None e = absurd (false≢true e)
some_of (Some x) e = (x, refl)

none_of : {A : Type 0} (o : Option A) → not (is_some o) ≡ true → o ≡ None
none_of None e = refl
none_of (Some x) e = absurd (false≢true e)

leans_some : (o : Option Decision) (v : ℕ) → leans v o ≡ true → (d : Decision) × (o ≡ Some d)
leans_some None v e = absurd (false≢true e)
leans_some (Some d) v e = (d, refl)

code_same : (v w : ℕ) → Code v ≡ Code w → v ≡ w
code_same v w e = cc

nothing_code : {X : Type 0} (v : ℕ) → Nothing ≡ Code v → X
nothing_code v e = let z : ◌≡◌ {A = ℕ} 0 1 = cc in absurd (omega arith)

module _ (l : Layer) (fit : Fit l) (carried : CarrierLawful l.carrier) where
  abbrev n : ℕ
  n = size_n l

  abbrev t : ℕ
  t = size_t l

  abbrev third : 3 * size_t l < size_n l
  third = (roster_of l).size.third

  abbrev Sound : ℕ → Type 0
  Sound i = sound (roster_of l) i ≡ true

  -- what a sound seat holds from a sound origin, that origin put
  held_put : (p q v : ℕ) → Sound p → Sound q → held_row l p 1 q ≡ Some v → puts_of l q ≡ Some v
  held_put p q v sp sq e = carried.from_put p q 1 v sp sq (held_why l p 1 q v e)

  settles_put : (p f c v : ℕ) → Sound p → Settles n t (held_row l p 1) f c (Code v) → Putter (roster_of l) (puts_of l) v
  settles_put p f c v sp (on_code x y k) =
      let s = sound_one (roster_of l) (λ i. is c (held_row l p 1 i)) (omega arith) in
      record {
        seat = s.seat;
        is_sound = s.is_sound;
        put = held_put p s.seat v sp s.is_sound (said_is _ c s.has ∙ ap Some (sym (code_same v c y)));
      }
  settles_put p f c v sp (on_nothing x y k) = nothing_code v (sym y)

  -- a figure that is settled was put by a sound seat
  pub figure_put : (p j v : ℕ) → Sound p → settled_at l p j ≡ Some (Code v) → Putter (roster_of l) (puts_of l) v
  figure_put p j v sp e =
      let w = settled_why n t (held_row l p 1) (held_row l p 2) j (Code v) e in
      settles_put p w.flag w.code v sp w.settles

  settles_differ : (p j f c : ℕ) → Sound p → Sound j → held_row l p 1 j ≡ Some c → Settles n t (held_row l p 1) f c Nothing → Differ (roster_of l) (puts_of l)
  settles_differ p j f c sp sj e (on_code x y k) = nothing_code c y
  settles_differ p j f c sp sj e (on_nothing x y k) =
      let s = sound_one (roster_of l) (λ i. differs c (held_row l p 1 i)) (omega arith) in
      let o = said_other (held_row l p 1 s.seat) c s.has in
      record {
        code = o.code;
        other = c;
        apart = o.apart;
        first = record { seat = s.seat; is_sound = s.is_sound; put = held_put p s.seat o.code sp s.is_sound o.said };
        second = record { seat = j; is_sound = sj; put = held_put p j c sp sj e };
      }

  -- a sound origin that is settled as Nothing, and a sound seat that put something else
  nothing_differ : (p j : ℕ) → Sound p → Sound j → settled_at l p j ≡ Some Nothing → Differ (roster_of l) (puts_of l)
  nothing_differ p j sp sj e =
      let w = settled_why n t (held_row l p 1) (held_row l p 2) j Nothing e in
      settles_differ p j w.flag w.code sp sj w.held w.settles

  -- where no figure stands out, two sound seats put different codes
  pub differ_when : (p : ℕ) → Sound p → TwoFigures n (settled_at l p) ⊎ (t < passing n (settled_at l p) is_nothing) → Differ (roster_of l) (puts_of l)
  differ_when p sp (inl two) = record {
    code = two.code;
    other = two.other;
    apart = two.apart;
    first = figure_put p two.seat two.code sp two.first;
    second = figure_put p two.other_seat two.other sp two.second;
  }
  differ_when p sp (inr many) =
      let s = sound_one (roster_of l) (λ i. is_nothing (settled_at l p i)) many in
      nothing_differ p s.seat sp s.is_sound (is_nothing_why _ s.has)

  -- a figure with enough support is the one that stands out elsewhere
  same_figure : (p q v : ℕ) → Sound p → Sound q → sound_rest n t ≤ support n (settled_at l p) v → (s : StandsOut n t (settled_at l q)) → v ≡ s.code
  same_figure p q v sp sq enough s =
      let meet = count_some (both (λ i. is_code v (settled_at l p i)) (λ i. leans s.code (settled_at l q i))) n
      (omega (arith, count_both (λ i. is_code v (settled_at l p i)) (λ i. leans s.code (settled_at l q i)) n, s.rest, third)) in
      let k = and_parts (is_code v (settled_at l p meet.seat)) _ meet.has in
      let (d, e) = leans_some (settled_at l q meet.seat) s.code k.1 in
      let same = settled_one n t (held_row l p 1) (held_row l p 2) (held_row l q 1) (held_row l q 2) (rows_agree l carried p q 1 sp sq) (rows_agree l carried p q 2 sp sq) meet.seat (Code v) d meet.low meet.high (is_code_why _ v k.0) e in
      leans_why (settled_at l q meet.seat) s.code v k.1 (e ∙ ap Some (sym same))

  module _ (agreed : Lawful l.below) (kept : Kept l) where
    -- whose bit was decided on
    bit_seat : (p c : ℕ) → Sound p → l.below.decided p ≡ Some (Code c) → Putter (roster_of l) l.below.puts c
    bit_seat p c sp e =
        let w = agreed.from_put p c (below_sound l fit p sp) e in
        record { seat = w.seat; is_sound = sound_below l fit w.seat w.is_sound; put = w.put }

    stood_out : (q : ℕ) → Voted l q 1 → StandsOut n t (settled_at l q)
    stood_out q (voted_one x s) = s
    stood_out q (voted_zero x d) = absurd (omega arith)

    differed : (q : ℕ) → Voted l q 0 → Differ (roster_of l) (puts_of l)
    differed q (voted_one x s) = absurd (omega arith)
    differed q (voted_zero x d) = d

    one_figure : (p v : ℕ) → Sound p → l.below.decided p ≡ Some (Code 1) → sound_rest n t ≤ support n (settled_at l p) v → (q : ℕ) × Sound q × (s : StandsOut n t (settled_at l q)) × (v ≡ s.code)
    one_figure p v sp e enough =
        let w = bit_seat p 1 sp e in
        let s = stood_out w.seat ((kept.seats w.seat w.is_sound).vote 1 w.put) in
        (w.seat, w.is_sound, s, same_figure p w.seat v sp w.is_sound enough s)

    bits_same : (i j x y : ℕ) → Sound i → Sound j → l.below.decided i ≡ Some (Code x) → l.below.decided j ≡ Some (Code y) → x ≡ y
    bits_same i j x y si sj e f = code_same x y (agreed.one i j (Code x) (Code y) (below_sound l fit i si) (below_sound l fit j sj) e f)

    same_decision : (i j : ℕ) (c d : Decision) → Sound i → Sound j → Decided l i c → Decided l j d → c ≡ d
    same_decision i j c d si sj (decided_nothing x e) (decided_nothing y f) = x ∙ sym y
    same_decision i j c d si sj (decided_nothing x e) (decided_code w y f k) = absurd (omega (arith, bits_same i j 0 1 si sj e f))
    same_decision i j c d si sj (decided_code v x e h) (decided_nothing y f) = absurd (omega (arith, bits_same i j 1 0 si sj e f))
    same_decision i j c d si sj (decided_code v x e h) (decided_code w y f k) =
        let (q, sq, s, same) = one_figure i v si e h in
        x ∙ ap Code (same ∙ sym (same_figure j q w sj sq k s)) ∙ sym y

    decided_put : (i c : ℕ) → Sound i → Decided l i (Code c) → Putter (roster_of l) (puts_of l) c
    decided_put i c si (decided_nothing x e) = nothing_code c (sym x)
    decided_put i c si (decided_code v x e h) =
        let (j, lo, hi, s) = support_seat n (settled_at l i) v (omega arith) in
        figure_put i j c si (s ∙ ap (λ k. Some (Code k)) (sym (code_same c v x)))

    decided_differ : (i : ℕ) → Sound i → Decided l i Nothing → Differ (roster_of l) (puts_of l)
    decided_differ i si (decided_code v x e h) = nothing_code v x
    decided_differ i si (decided_nothing x e) =
        let w = bit_seat i 0 si e in
        differed w.seat ((kept.seats w.seat w.is_sound).vote 0 w.put)

    -- once still, with every sound seat's put made
    module _ (carrier_still : l.carrier.still ≡ true) (below_still : l.below.still ≡ true) (nothing_due : idle l ≡ true) (all_put : (i : ℕ) → Sound i → is_some (puts_of l i) ≡ true) where
      not_due : (p : ℕ) → Sound p → due_at l p ≡ None
      unfolding idle
      not_due p sp =
          let b = sound_within (roster_of l) p sp in
          none_of (due_at l p) (implied _ _ (all_at (is_idle l) n p b.0 b.1 nothing_due) sp)

      idles : (p : ℕ) → Sound p → Idle n t (record_of l p) (held_row l p 1) (held_row l p 2) (decided_below l p)
      unfolding due_at
      idles p sp =
          idle_why n t (record_of l p) (held_row l p 1) (held_row l p 2) (decided_below l p)
          (ap is_some (kept.seats p sp).code ∙ all_put p sp) (not_due p sp)

      arrives : (p q s v : ℕ) → Sound p → Sound q → is_slot s ≡ true → l.carrier.puts q s ≡ Some v → held_row l p s q ≡ Some v
      arrives p q s v sp sq slot e =
          let b = sound_within (roster_of l) q sq in
          held_is l fit p s q sp slot b.0 b.1 ∙ carried.arrived carrier_still p q s v sp sq e

      spreads : (q p s : ℕ) → Sound q → Sound p → is_slot s ≡ true → Covers n (held_row l q s) (held_row l p s)
      spreads q p s sq sp slot j v lo hi e =
          held_is l fit p s j sp slot lo hi ∙ carried.spread carrier_still q p j s v sq sp (held_why l q s j v e)

      all_held : (p : ℕ) → Sound p → all_but_faulty n t ≤ said n (held_row l p 1)
      all_held p sp = omega (
        arith,
        sound_many (roster_of l) (λ q. is_some (held_row l p 1 q)) (λ q sq.
            let (v, e) = some_of (puts_of l q) (all_put q sq) in
            some_is _ v (arrives p q 1 v sp sq refl e)),
      )

      all_flagged : (p : ℕ) → Sound p → is_some (l.carrier.puts p 2) ≡ true
      all_flagged p sp = sym (kept.seats p sp).flagged ∙ (idles p sp).flagged (all_held p sp)

      settles_there : (p q f : ℕ) → Sound p → Sound q → l.carrier.puts q 2 ≡ Some f → Flagged l q f → is_some (settled_at l p q) ≡ true
      settles_there p q f sp sq e (flagged_one v put x k) =
          some_is _ (Code v) (why_settled n t (held_row l p 1) (held_row l p 2) q (Code v) (record {
            code = v;
            flag = f;
            held = arrives p q 1 v sp sq refl put;
            flagged = arrives p q 2 f sp sq refl e;
            settles = on_code x refl (omega (arith, votes_covers n t (held_row l q 1) (held_row l p 1) (spreads q p 1 sq sp refl) v));
          }))
      settles_there p q f sp sq e (flagged_zero v put x k) =
          some_is _ Nothing (why_settled n t (held_row l p 1) (held_row l p 2) q Nothing (record {
            code = v;
            flag = f;
            held = arrives p q 1 v sp sq refl put;
            flagged = arrives p q 2 f sp sq refl e;
            settles = on_nothing x refl (omega (arith, others_covers n t (held_row l q 1) (held_row l p 1) (spreads q p 1 sq sp refl) v));
          }))

      all_settled : (p : ℕ) → Sound p → all_but_faulty n t ≤ said n (settled_at l p)
      all_settled p sp = omega (
        arith,
        sound_many (roster_of l) (λ q. is_some (settled_at l p q)) (λ q sq.
            let (f, e) = some_of (l.carrier.puts q 2) (all_flagged q sq) in
            settles_there p q f sp sq e ((kept.seats q sq).flag f e)),
      )

      all_voted : (p : ℕ) → Sound p → is_some (l.below.puts p) ≡ true
      all_voted p sp = sym (kept.seats p sp).voted ∙ (idles p sp).voted (all_settled p sp)

      stands_everywhere : (p q : ℕ) → Sound p → Sound q → StandsOut n t (settled_at l q) → stands_out n t (settled_at l p) ≡ true
      stands_everywhere p q sp sq s =
          stands_when n t third (settled_at l p) s.code (omega (
            arith,
            s.enough,
            passing_covers (is_code s.code) refl n (settled_at l q) (settled_at l p)
                (settled_covers n t (held_row l q 1) (held_row l p 1) (spreads q p 1 sq sp refl) (held_row l q 2) (held_row l p 2) (spreads q p 2 sq sp refl)),
          ))

      decides_by : (p c : ℕ) → Sound p → l.below.decided p ≡ Some (Code c) → (c ≡ 0) ⊎ (c ≡ 1) → is_some (record_of l p).decided ≡ true
      decides_by p c sp e (inl z) = (idles p sp).decided_zero (below_is l fit p sp ∙ e ∙ ap (λ k. Some (Code k)) z)
      decides_by p c sp e (inr z) =
          let one : l.below.decided p ≡ Some (Code 1) = e ∙ ap (λ k. Some (Code k)) z in
          let w = bit_seat p 1 sp one in
          let s = stood_out w.seat ((kept.seats w.seat w.is_sound).vote 1 w.put) in
          (idles p sp).decided_one (below_is l fit p sp ∙ one) (stands_everywhere p w.seat sp w.is_sound s)

      decides_on_it : (p : ℕ) (d : Decision) → Sound p → l.below.decided p ≡ Some d → is_some (record_of l p).decided ≡ true
      decides_on_it p Nothing sp e = absurd (agreed.plain fit.plain p (below_sound l fit p sp) e)
      decides_on_it p (Code c) sp e =
          let w = bit_seat p c sp e in
          let small : c ≤ 1 = omega (arith, agreed.within w.seat c w.put, fit.binary) in
          decides_by p c sp e (elim (cases_eq c 0) [ inl z ↦ inl z | inr nz ↦ inr (omega arith) ])

      pub all_decided : (p : ℕ) → Sound p → is_some (record_of l p).decided ≡ true
      all_decided p sp =
          let (d, e) = some_of (l.below.decided p) (agreed.ends below_still (λ i si. all_voted i (sound_below l fit i si)) p (below_sound l fit p sp)) in
          decides_on_it p d sp e

cond_some : {A : Type 0} (b : Bool) (o : Option A) (x : A) → cond b o None ≡ Some x → (b ≡ true) × (o ≡ Some x)
cond_some true o x e = (refl, e)
cond_some false o x e = let z : ◌≡◌ {A = ℕ} 0 1 = cc in absurd (omega arith)

cond_none : {A : Type 0} (b : Bool) (o : Option A) → (b ≡ true → o ≡ None) → cond b o None ≡ None
cond_none true o h = h refl
cond_none false o h = refl

blank_at : (k i : ℕ) → get_or (replicate k blank) i blank ≡ blank
blank_at zero i = refl
blank_at (suc k) zero = refl
blank_at (suc k) (suc i) = blank_at k i

pub record Untouched (l : Layer) : Type 0 where
  pub carrier : l.carrier.untouched ≡ true
  pub below : l.below.untouched ≡ true
  pub table : l.touched ≡ false

untouched_by : (m c b t : Bool) → m ≡ true → (not m || (c && (b && not t))) ≡ true → (c ≡ true) × (b ≡ true) × (t ≡ false)
untouched_by true c b t m e =
    let x = and_parts c _ e in
    let y = and_parts b _ x.1 in
    (x.0, y.0, not-true t y.1)
untouched_by false c b t m e = absurd (false≢true m)

pub untouched_why : (l : Layer) → matched l ≡ true → (meaning l).untouched ≡ true → Untouched l
untouched_why l m u =
    let (x, y, z) = untouched_by (matched l) l.carrier.untouched l.below.untouched l.touched m u in
    record { carrier = x; below = y; table = z }

-- until it is touched, its table is blank
abbrev pub Clear : Layer → Type 0
Clear l = l.touched ≡ false → l.seats ≡ replicate 10 blank

blank_record : (l : Layer) → Clear l → l.touched ≡ false → (i : ℕ) → record_of l i ≡ blank
blank_record l clear u i = ap (λ xs. get_or xs (i - 1) blank) (clear u) ∙ blank_at 10 (i - 1)

none_some : {A X : Type 0} (o : Option A) (x : A) → o ≡ None → o ≡ Some x → X
none_some o x p q = let z : ◌≡◌ {A = ℕ} 0 1 = cc in absurd (omega arith)

-- an untouched reduction has nothing to be kept
pub fresh_kept : (l : Layer) → Clear l → Untouched l → CarrierLawful l.carrier → Lawful l.below → Kept l
fresh_kept l clear u carried agreed = record {
  seats = λ p sp.
      let blank_one = blank_record l clear u.table p in
      record {
        code = ap (λ (r : Record). r.code) blank_one ∙ sym (carried.no_put u.carrier p 1);
        flagged = ap (λ (r : Record). r.flagged) blank_one ∙ sym (ap is_some (carried.no_put u.carrier p 2));
        voted = ap (λ (r : Record). r.voted) blank_one ∙ sym (ap is_some (agreed.no_put u.below p));
        flag = λ f e. none_some (l.carrier.puts p 2) f (carried.no_put u.carrier p 2) e;
        vote = λ x e. none_some (l.below.puts p) x (agreed.no_put u.below p) e;
        decision = λ d e. none_some (record_of l p).decided d (ap (λ (r : Record). r.decided) blank_one) e;
      };
  within = λ i c e. none_some (puts_of l i) c (carried.no_put u.carrier i 1) e;
}

-- the puts of the meaning are those of the carrier's first slot
module _ (l : Layer) (m : matched l ≡ true) where
  lift_putter : (c : ℕ) → Putter (roster_of l) (puts_of l) c → Putter (roster_of l) (meaning l).puts c
  lift_putter c p = record { seat = p.seat; is_sound = p.is_sound; put = cond-true _ _ _ m ∙ p.put }

  lift_differ : Differ (roster_of l) (puts_of l) → Differ (roster_of l) (meaning l).puts
  lift_differ d = record { code = d.code; other = d.other; apart = d.apart; first = lift_putter d.code d.first; second = lift_putter d.other d.second }

pub record Parts (l : Layer) : Type 0 where
  pub carrier : CarrierLawful l.carrier
  pub below : Lawful l.below
  pub kept : Kept l

pub lawful : (l : Layer) → Clear l → (matched l ≡ true → Parts l) → Lawful (meaning l)
lawful l clear parts = record {
  one = λ i j c d si sj e f.
      let (m, x) = cond_some (matched l) (record_of l i).decided c e in
      let (m', y) = cond_some (matched l) (record_of l j).decided d f in
      let p = parts m in
      same_decision l (fit_why l m) p.carrier p.below p.kept i j c d si sj ((p.kept.seats i si).decision c x) ((p.kept.seats j sj).decision d y);
  from_put = λ i c si e.
      let (m, x) = cond_some (matched l) (record_of l i).decided (Code c) e in
      let p = parts m in
      lift_putter l m c (decided_put l (fit_why l m) p.carrier p.below p.kept i c si ((p.kept.seats i si).decision (Code c) x));
  differ = λ i si e.
      let (m, x) = cond_some (matched l) (record_of l i).decided Nothing e in
      let p = parts m in
      lift_differ l m (decided_differ l (fit_why l m) p.carrier p.below p.kept i si ((p.kept.seats i si).decision Nothing x));
  plain = λ e. absurd (false≢true e);
  ends = λ still all_put i si.
      let a = and_parts (matched l) _ still in
      let b = and_parts l.carrier.still _ a.1 in
      let c = and_parts l.below.still _ b.1 in
      let p = parts a.0 in
      ap is_some (cond-true _ _ _ a.0) ∙ all_decided l (fit_why l a.0) p.carrier p.below p.kept b.0 c.0 c.1 (λ j sj. ap is_some (sym (cond-true _ _ _ a.0)) ∙ all_put j sj) i si;
  within = λ i c e. let (m, x) = cond_some (matched l) (puts_of l i) c e in (parts m).kept.within i c x;
  matched = λ still. (and_parts (matched l) _ still).0;
  no_put = λ u i. cond_none (matched l) (puts_of l i) (λ m. (parts m).carrier.no_put (untouched_why l m u).carrier i 1);
  no_decision = λ u i. cond_none (matched l) (record_of l i).decided (λ m. ap (λ (r : Record). r.decided) (blank_record l clear (untouched_why l m u).table i));
}
