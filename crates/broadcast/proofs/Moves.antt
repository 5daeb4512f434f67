-- What a granted move says. Assumes nothing.
use Rattle.std.proofs.Common.{◌≡◌, ◌≢◌, ℕ, ◌≤◌, Bool, true, false, not, ◌||◌, leb, List, is_some, Some, None, Ok, Err, Option, Result, sym, refl, ap, ◌∙◌, subst, inl, inr, arith}
use Rattle.std.proofs.lemmas.Bool.{and_parts, and_from, or_cases, or_from, not-true, both_ways, eqb-true, ne_eqb, leb-true, cond-true, cond-false}
use Rattle.carrier.specs.Views.{is_slot}
use Rattle.roster.specs.Counting.{is_seat}
use Rattle.roster.specs.declared.denial.Denial.{Denial}
use Rattle.roster.specs.declared.moves.Move.{Move}
use Rattle.roster.specs.declared.moves.MoveKind.{MoveKind}
use Rattle.roster.specs.declared.moves.MoveKind.TheVariants.{Stray, HandOver}
use Rattle.roster.specs.declared.roster.Roster.{Roster}
use Rattle.roster.specs.Moves.{kind_number}
use Rattle.roster.specs.Rosters.{sound}
use Rattle.broadcast.specs.declared.cell.Cell.{Cell}
use Rattle.broadcast.specs.declared.letter.Kind.{Kind}
use Rattle.broadcast.specs.declared.letter.Kind.TheVariants.{Init, Echo, Ready}
use Rattle.broadcast.specs.declared.letter.Letter.{Letter}
use Rattle.broadcast.specs.Letters.{kind_of}
use Rattle.broadcast.specs.Moves.{grant, from_origin, is_stray, is_hand_over, in_range, seats_fit, receiver, told, unless_counted, due_of, due_if, due}
use Rattle.broadcast.specs.Rows.{fits, within, row}
use Rattle.broadcast.specs.Rules.{sent, got}
use Rattle.broadcast.proofs.Votes.{is_none}

pub ok_not_err : {A B : Type 0} (x : Result A Denial) (a : A) (e : Denial) → x ≡ Err e → x ≡ Ok a → B
ok_not_err x a e p q = let z : ◌≡◌ {A = ℕ} 0 1 = cc in absurd (omega arith)

granted : {A : Type 0} (b : Bool) (e : Denial) (x : Result A Denial) (a : A) → grant b e x ≡ Ok a → (b ≡ true) × (x ≡ Ok a)
granted true e x a h = (refl, h)
granted false e x a h = ok_not_err (Err e) a e refl h

-- what has the receiver of a granted move count this letter
pub record Due (r : Roster) (cs : List Cell) (by : Move) (l : Letter) : Type 0 where
  pub fit : fits r.size.n cs ≡ true
  pub inside : within r.size.n by.to by.origin by.slot ≡ true
  pub low : 1 ≤ l.sender
  pub to_sound : sound r by.to ≡ true
  pub fresh : got l.kind l.sender (row r.size.n cs by.origin by.slot by.to) ≡ None
  pub own : l.kind ≡ Init → l.sender ≡ by.origin
  pub as_sent : sound r l.sender ≡ true → sent l.kind (row r.size.n cs by.origin by.slot l.sender) ≡ Some l.code

-- a number that no kind of move goes by
pub unnamed : (by : Move) → ((kind : MoveKind) → by.kind ≢ kind_number kind) → (is_stray by || is_hand_over by) ≡ false
unnamed by h = or_from (is_stray by) (is_hand_over by) (ne_eqb by.kind 1 (h Stray)) (ne_eqb by.kind 2 (h HandOver))

own_origin : (k : Kind) (s o : ℕ) → from_origin k s o ≡ true → k ≡ Init → s ≡ o
own_origin Init s o h e = eqb-true s o h
own_origin Echo s o h e = let z : ◌≡◌ {A = ℕ} 0 1 = cc in absurd (omega arith)
own_origin Ready s o h e = let z : ◌≡◌ {A = ℕ} 0 1 = cc in absurd (omega arith)

module _ (r : Roster) (cs : List Cell) (by : Move) where
  abbrev n : ℕ
  n = r.size.n

  told_sent : (k : Kind) (v : ℕ) → told r cs by k ≡ Some v → seats_fit r by ≡ true → sound r by.from ≡ true → sent k (row n cs by.origin by.slot by.from) ≡ Some v
  told_sent k v h fit s =
      let p = and_parts (sound r by.to) (not (is_stray by) || not (sound r by.from)) fit in
      elim (or_cases (not (is_stray by)) (not (sound r by.from)) p.1) [
        | inr e ↦ absurd (both_ways (sound r by.from) (not-true (sound r by.from) e) s)
        | inl e ↦
            sym (cond-true (sound r by.from) _ None s) ∙ sym (cond-false (is_stray by) (Some by.code) _ (not-true (is_stray by) e)) ∙ h
      ]

  -- the letter is the one told, which was not counted before
  unless_why : (k : Kind) (o : Option ℕ) (l : Letter) → unless_counted r cs by k o ≡ Ok l
      → (is_some (got k by.from (receiver r cs by)) ≡ false) × (o ≡ Some l.code) × (k ≡ l.kind) × (by.from ≡ l.sender)
  unless_why k None l h = ok_not_err _ l _ refl h
  unless_why k (Some v) l h =
      let g = granted (not (is_some (got k by.from (receiver r cs by)))) _ _ l h in
      let e = g.1 in
      let m : ◌≡◌ {A = Letter} (record { kind = k; sender = by.from; code = v }) l = cc in
      (not-true _ g.0, ap (λ (z : Letter). Some z.code) m, ap (λ (z : Letter). z.kind) m, ap (λ (z : Letter). z.sender) m)

  due_kind : (k : Kind) (l : Letter) → fits n cs ≡ true → due_of r cs by k ≡ Ok l → Due r cs by l
  due_kind k l fit h =
      let a = granted (in_range n k by) _ _ l h in
      let b = granted (seats_fit r by) _ _ l a.1 in
      let u = unless_why k (told r cs by k) l b.1 in
      let from = and_parts (is_seat n by.from) _ a.0 in
      let to = and_parts (is_seat n by.to) _ from.1 in
      let origin = and_parts (is_seat n by.origin) _ to.1 in
      let slot = and_parts (is_slot by.slot) _ origin.1 in
      let F : ℕ → Type 0 = λ s. 1 ≤ s in
      let G : Kind → ℕ → Type 0 = λ k s. got k s (receiver r cs by) ≡ None in
      let O : Kind → ℕ → Type 0 = λ k s. k ≡ Init → s ≡ by.origin in
      let W : Kind → ℕ → Type 0 = λ k s. sound r s ≡ true → sent k (row n cs by.origin by.slot s) ≡ Some l.code in
      record {
        fit = fit;
        inside = and_from (is_seat n by.to) _ to.0 (and_from (is_seat n by.origin) (is_slot by.slot) origin.0 slot.0);
        low = subst F u.3 (leb-true 1 by.from (and_parts (leb 1 by.from) _ from.0).0);
        to_sound = (and_parts (sound r by.to) _ b.0).0;
        fresh = subst (λ s. G l.kind s) u.3 (subst (λ k. G k by.from) u.2 (is_none (got k by.from (receiver r cs by)) u.0));
        own = subst (λ s. O l.kind s) u.3 (subst (λ k. O k by.from) u.2 (own_origin k by.from by.origin slot.1));
        as_sent = subst (λ s. W l.kind s) u.3 (subst (λ k. W k by.from) u.2 (told_sent k l.code u.1 b.0));
      }

  due_some : (o : Option Kind) (l : Letter) → fits n cs ≡ true → due_if r cs by o ≡ Ok l → Due r cs by l
  due_some None l fit h = ok_not_err _ l _ refl h
  due_some (Some k) l fit h = due_kind k l fit h

  pub due_why : (l : Letter) → due r cs by ≡ Ok l → Due r cs by l
  due_why l h =
      let a = granted (fits n cs) _ _ l h in
      let b = granted (is_stray by || is_hand_over by) _ _ l a.1 in
      due_some (kind_of by.letter) l a.0 b.1
