-- What the calls of a reduction do to its meaning, and that they keep what is to be kept. Assumes nothing.
use Rattle.std.proofs.Common.{◌≡◌, ℕ, ◌≤◌, Bool, true, false, cond, not, ◌&&◌, eqb, leb, List, is_some, is_ok, Some, None, Option, Result, sym, refl, ap, ◌∙◌, subst, inl, inr, arith}
use Rattle.std.proofs.lemmas.Bool.{true≢false, and_from, cases_Bool}
use Rattle.roster.specs.Checks.{answer, check}
use Rattle.roster.specs.Counting.{is_seat}
use Rattle.roster.specs.Rosters.{sound}
use Rattle.roster.specs.declared.denial.Denial.{Denial}
use Rattle.roster.specs.declared.denial.Denial.TheVariants.{IllMatched, OutOfRange, FaultySeat, CodeTooLarge, PutBefore}
use Rattle.roster.specs.declared.moves.Move.{Move}
use Rattle.carrier.specs.declared.carrier.Carrier.{Ghosts as CarrierGhosts}
use Rattle.carrier.specs.Views.{View as Carried, is_slot, put_denial as carrier_put_denial}
use Rattle.carrier.proofs.Puts as above
use Rattle.agreement.specs.declared.agreement.Agreement.{Ghosts}
use Rattle.agreement.specs.Views.{View, Moved, Put, put_denial, seat_denial}
use Rattle.agreement.proofs.Puts as lower
use Rattle.settling.specs.declared.record.Due.{Due}
use Rattle.settling.specs.declared.record.Due.TheVariants.{Flag, Vote, Decide}
use Rattle.settling.specs.declared.record.Record.{Record}
use Rattle.settling.specs.Layers.{Layer, after, as_code, changed, due_at, matched, meaning, record_of, roster_of, size_n, with_code}
use Rattle.settling.specs.Wakes.{act_denial, due_denial, wake_denial}
use Rattle.settling.proofs.Effects as effects
use Rattle.settling.proofs.Kept as kept
use Rattle.settling.proofs.Layers.{fit_why}
use Rattle.settling.proofs.Reasons as reasons
use Rattle.reduction.specs.declared.reduction.Reduction.{Reduction}
use Rattle.reduction.specs.Good.{Good, Ok as Holds}
use Rattle.reduction.specs.Parts.{Does, Kept, PutAbove, PutBelow, layer_of}

-- a wake that is granted
pub record Granted (l : Layer) (by : Move) : Type 0 where
  pub is_sound : sound (roster_of l) by.to ≡ true
  pub act : Due
  pub is_due : due_at l by.to ≡ Some act
  pub taken : act_denial l by.to act ≡ None

due_why : (l : Layer) (seat : ℕ) (o : Option Due) → due_denial l seat o ≡ None → (x : Due) × (o ≡ Some x) × (act_denial l seat x ≡ None)
due_why l seat None e = let z : ◌≡◌ {A = ℕ} 0 1 = cc in absurd (omega arith)
due_why l seat (Some x) e = (x, refl, e)

pub wake_granted : (l : Layer) (by : Move) → wake_denial l by ≡ None → Granted l by
wake_granted l by e =
    let a = lower.passed (matched l) _ _ e in
    let b = lower.passed (eqb by.kind 3) _ _ a.1 in
    let c = lower.passed (is_seat (size_n l) by.to) _ _ b.1 in
    let d = lower.passed (sound (roster_of l) by.to) _ _ c.1 in
    let (x, due, taken) = due_why l by.to (due_at l by.to) d.1 in
    record { is_sound = d.0; act = x; is_due = due; taken = taken }

pub granted : (d : Option Denial) (r : Result (Unit {0}) Denial) → r ≡ answer d tt → is_ok r ≡ true → d ≡ None
granted None r e k = refl
granted (Some x) r e k = absurd (true≢false (sym k ∙ ap is_ok e))

module _ {C B : Type 0} (carrier : CarrierGhosts C) (below : Ghosts B) where
  abbrev of : Reduction C B → Layer
  of = layer_of carrier below

  -- a reduction whose parts are known
  layer_is : (e : Reduction C B) (l : Layer) (w : Carried) (b : View) (t : Bool) (xs : List Record) → carrier.view e.carrier ≡ w → below.view e.below ≡ b → e.largest ≡ l.largest → e.made ≡ l.made → e.table.touched ≡ t → e.table.seats ≡ xs → after l w b t xs ≡ of e
  layer_is e l w b t xs p q n m u s =
      sym (λ i. record { carrier = p i; below = q i; largest = n i; made = m i; touched = u i; seats = s i })

  module _ (s e : Reduction C B) (seat : ℕ) (is_sound : sound (roster_of (of s)) seat ≡ true) where
    abbrev l : Layer
    l = of s

    above_is : (slot code : ℕ) (to : Record) → PutAbove carrier below s seat slot code to e → after l (carrier.view e.carrier) (below.view s.below) true (changed l seat to) ≡ of e
    above_is slot code to p = layer_is e l _ _ _ _ refl (ap below.view p.same_below) p.table.largest p.table.made p.table.touched p.table.seats

    below_is : (code : ℕ) (to : Record) → PutBelow carrier below s seat code to e → after l (carrier.view s.carrier) (below.view e.below) true (changed l seat to) ≡ of e
    below_is code to p = layer_is e l _ _ _ _ (ap carrier.view p.same_carrier) refl p.table.largest p.table.made p.table.touched p.table.seats

    kept_is : (to : Record) → Kept carrier below s seat to e → after l (carrier.view s.carrier) (below.view s.below) true (changed l seat to) ≡ of e
    kept_is to p = layer_is e l _ _ _ _ (ap carrier.view p.same_carrier) (ap below.view p.same_below) p.table.largest p.table.made p.table.touched p.table.seats

    abbrev Moves : Layer → Type 0
    Moves m = Moved (meaning l) (meaning m)

    -- an act adds at most a decision
    pub act_moves : matched l ≡ true → (x : Due) → due_at l seat ≡ Some x → act_denial l seat x ≡ None → Does carrier below s seat x e → Moves (of e)
    act_moves m (Flag f) due taken p =
        subst Moves (above_is 2 (as_code f) _ p) (effects.flag_moves l seat is_sound s.table.room (as_code f) _ p.put (above.put_granted l.carrier seat 2 taken).1 m)
    act_moves m (Vote x) due taken p =
        subst Moves (below_is (as_code x) _ p) (effects.vote_moves l seat is_sound s.table.room (as_code x) _ p.put (lower.put_granted l.below seat (as_code x) taken).free m)
    act_moves m (Decide d) due taken p =
        subst Moves (kept_is _ p) (effects.decide_moves l seat is_sound s.table.room d (reasons.decide_open l seat d (reasons.reason l seat (Decide d) due)) m)

    -- and it has its reason
    pub act_kept : matched l ≡ true → Good carrier below s → (x : Due) → due_at l seat ≡ Some x → act_denial l seat x ≡ None → Does carrier below s seat x e → kept.Kept (of e)
    act_kept m good (Flag f) due taken p =
        let why = reasons.flag_reason l seat (fit_why l m) (carrier.lawful s.carrier good.carrier_ok) good.kept is_sound f (reasons.reason l seat (Flag f) due) in
        subst kept.Kept (above_is 2 (as_code f) _ p) (effects.flag_kept l seat is_sound s.table.room (as_code f) _ p.put (above.put_granted l.carrier seat 2 taken).1 good.kept why)
    act_kept m good (Vote x) due taken p =
        let why = reasons.vote_reason l seat (fit_why l m) (carrier.lawful s.carrier good.carrier_ok) good.kept is_sound x (reasons.reason l seat (Vote x) due) in
        subst kept.Kept (below_is (as_code x) _ p) (effects.vote_kept l seat is_sound s.table.room (as_code x) _ p.put (lower.put_granted l.below seat (as_code x) taken).free good.kept why)
    act_kept m good (Decide d) due taken p =
        let because = reasons.reason l seat (Decide d) due in
        let why = reasons.decide_reason l seat (fit_why l m) (carrier.lawful s.carrier good.carrier_ok) good.kept is_sound d because in
        subst kept.Kept (kept_is _ p) (effects.decide_kept l seat is_sound s.table.room d (reasons.decide_open l seat d because) good.kept why)

    -- a put
    module _ (code : ℕ) (p : PutAbove carrier below s seat 1 code (with_code (record_of (of s) seat) code) e) (free : l.carrier.puts seat 1 ≡ None) (small : code ≤ l.largest) where
      pub put_puts : matched l ≡ true → Put (meaning l) seat code (meaning (of e))
      put_puts m = subst (λ x. Put (meaning l) seat code (meaning x)) (above_is 1 code _ p) (effects.put_puts l seat is_sound s.table.room code _ p.put free small m)

      pub put_kept : kept.Kept l → kept.Kept (of e)
      put_kept k = subst kept.Kept (above_is 1 code _ p) (effects.put_kept l seat is_sound s.table.room code _ p.put free small k)

-- a put that passed the checks which the carrier does not make
pub record Open (l : Layer) (seat code : ℕ) : Type 0 where
  pub whole : matched l ≡ true
  pub inside : is_seat (size_n l) seat ≡ true
  pub is_sound : sound (roster_of l) seat ≡ true
  pub small : leb code l.largest ≡ true

pub put_open : (l : Layer) (seat code : ℕ) → None ≡ seat_denial (meaning l).fixed seat (check (leb code l.largest) CodeTooLarge None) → Open l seat code
put_open l seat code e =
    let a = lower.seat_granted (meaning l).fixed seat _ (sym e) in
    let b = lower.passed (leb code l.largest) _ _ a.1 in
    record { whole = a.0.matched; inside = a.0.inside; is_sound = a.0.is_sound; small = b.0 }

rest_same : (m s d b c i : Bool) (x : Option ℕ) → m ≡ true → s ≡ true → d ≡ true → b ≡ true → c ≡ true → i ≡ true → check c IllMatched (check i OutOfRange (check d FaultySeat (check (not (is_some x)) PutBefore None))) ≡ check m IllMatched (check s OutOfRange (check d FaultySeat (check b CodeTooLarge (check (not (is_some (cond m x None))) PutBefore None))))
rest_same m s d b c i x em es ed eb ec ei = rw (em, es, ed, eb, ec, ei)

-- the carrier makes the check that is left
pub put_same : (l : Layer) (seat code : ℕ) → Open l seat code → carrier_put_denial l.carrier seat 1 ≡ put_denial (meaning l) seat code
put_same l seat code o =
    rest_same (matched l) (is_seat (size_n l) seat) (sound (roster_of l) seat) (leb code l.largest) l.carrier.fixed.matched (is_seat (size_n l) seat && is_slot 1) (l.carrier.puts seat 1)
    o.whole o.inside o.is_sound o.small (fit_why l o.whole).carrier (and_from _ _ o.inside refl)

module _ {C B : Type 0} (carrier : CarrierGhosts C) (below : Ghosts B) (s e : Reduction C B) (r : Result (Unit {0}) Denial) (whole : matched (layer_of carrier below s) ≡ true) (same : is_ok r ≡ false → e ≡ s) where
  -- a denied call keeps all
  pub keeps_by : (is_ok r ≡ true → Good carrier below s → Good carrier below e) → Holds carrier below s → Holds carrier below e
  keeps_by done ok m = elim (cases_Bool (is_ok r)) [
    | inl y ↦ done y (ok whole)
    | inr f ↦ subst (Good carrier below) (sym (same f)) (ok whole)
  ]

-- a part that is as it was
pub carrier_same : {C B : Type 0} (s : Reduction C B) (c : C) → c ≡ s.carrier → ◌≡◌ {A = Reduction C B} (record { carrier = c; below = s.below; largest = s.largest; made = s.made; table = s.table }) s
carrier_same {C} {B} s c e = ap (λ (x : C). record { carrier = x; below = s.below; largest = s.largest; made = s.made; table = s.table }) e

pub below_same : {C B : Type 0} (s : Reduction C B) (b : B) → b ≡ s.below → ◌≡◌ {A = Reduction C B} (record { carrier = s.carrier; below = b; largest = s.largest; made = s.made; table = s.table }) s
below_same {C} {B} s b e = ap (λ (x : B). record { carrier = s.carrier; below = x; largest = s.largest; made = s.made; table = s.table }) e
