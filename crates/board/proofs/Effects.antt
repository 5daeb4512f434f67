-- What a writing and a hand-over do to a board's meaning. Assumes nothing.
use Rattle.std.proofs.Common.{◌≡◌, ℕ, Bool, true, false, is_ok, Some, None, Option, Result, sym, ap, ◌∙◌, inl, inr, arith}
use Rattle.std.proofs.lemmas.Bool.{cases_Bool}
use Rattle.roster.specs.Checks.{answer}
use Rattle.roster.specs.declared.denial.Denial.{Denial}
use Rattle.board.specs.declared.board.Board.{Board}
use Rattle.board.specs.Meaning.{Kept}
use Rattle.board.specs.Places.{is_place, writing, holding}
use Rattle.board.specs.Rules.{write_denial, hand_denial, Written, Handed}
use Rattle.roster.proofs.Checks.{granted}
use Rattle.board.proofs.Granted.{MayWrite, MayHand, may_write, may_hand}
use Rattle.board.proofs.Places.{cases_two, cases_three, writing_there, holding_here, holding_there}

clash : {P : Type 0} (x : Option ℕ) (c : ℕ) → x ≡ None → x ≡ Some c → P
clash x c e f = let z : ◌≡◌ {A = ℕ} 0 1 = cc in absurd (omega arith)

module _ (b d : Board) (seat slot code : ℕ) (to : Written b seat slot code d) where
  writing_old : is_place seat slot ≡ true → (o s : ℕ) → (o ≡ seat → s ≡ slot → ⊥) → writing d.written o s ≡ writing b.written o s
  writing_old there o s ne =
      ap (λ ws. writing ws o s) to.written ∙ writing_there b.written (Some code) seat slot o s there ne

  holding_kept : (i o s : ℕ) → holding d.held i o s ≡ holding b.held i o s
  holding_kept i o s = ap (λ hs. holding hs i o s) to.held

  pub written_kept : (wanted : Bool) → MayWrite b wanted seat slot → Kept b → Kept d
  written_kept wanted may kept i o s c e =
      let k = kept i o s c (sym (holding_kept i o s) ∙ e) in
      elim (cases_two seat slot o s) [
        | inl x ↦ clash (writing b.written seat slot) c may.free (rw (x.0, x.1) at k)
        | inr n ↦ writing_old may.there o s n.0 ∙ k
      ]

module _ (b d : Board) (from to slot : ℕ) (by : Handed b from to slot d) (may : MayHand b from to slot) where
  writing_kept : (o s : ℕ) → writing d.written o s ≡ writing b.written o s
  writing_kept o s = ap (λ ws. writing ws o s) by.written

  holding_new : holding d.held to from slot ≡ writing b.written from slot
  holding_new =
      ap (λ hs. holding hs to from slot) by.held
      ∙ holding_here b.held (writing b.written from slot) to from slot b.rooms may.there

  holding_old : (i o s : ℕ) → (i ≡ to → o ≡ from → s ≡ slot → ⊥) → holding d.held i o s ≡ holding b.held i o s
  holding_old i o s ne =
      ap (λ hs. holding hs i o s) by.held
      ∙ holding_there b.held (writing b.written from slot) to from slot i o s may.there ne

  pub handed_kept : Kept b → Kept d
  handed_kept kept i o s c e =
      elim (cases_three to from slot i o s) [
        | inl x ↦ rw (x.1, x.2) (writing_kept from slot ∙ sym holding_new ∙ (rw (x.0, x.1, x.2) at e))
        | inr n ↦ writing_kept o s ∙ kept i o s c (sym (holding_old i o s n) ∙ e)
      ]

-- a denied call changes nothing, and so keeps all
keeps_by : (b d : Board) (r : Result Unit Denial) → (is_ok r ≡ false → d ≡ b) → (is_ok r ≡ true → Kept b → Kept d) → Kept b → Kept d
keeps_by b d r same granted_keeps kept =
    elim (cases_Bool (is_ok r)) [ inl yes_ok ↦ granted_keeps yes_ok kept | inr denied ↦ rw (same denied) kept ]

-- a call of the code, from what it promises: its answer, and what it changes where it is granted
module _ (b d : Board) (wanted : Bool) (seat slot code : ℕ) (r : Result Unit Denial) (value : r ≡ answer (write_denial b wanted seat slot) tt) (after : is_ok r ≡ true → Written b seat slot code d) where
  write_may : is_ok r ≡ true → MayWrite b wanted seat slot
  write_may k = may_write b wanted seat slot (granted _ tt r value k)

  pub write_keeps : (is_ok r ≡ false → d ≡ b) → Kept b → Kept d
  write_keeps same = keeps_by b d r same (λ k. written_kept b d seat slot code (after k) wanted (write_may k))

module _ (b d : Board) (from to slot : ℕ) (r : Result Unit Denial) (value : r ≡ answer (hand_denial b from to slot) tt) (after : is_ok r ≡ true → Handed b from to slot d) where
  hand_may : is_ok r ≡ true → MayHand b from to slot
  hand_may k = may_hand b from to slot (granted _ tt r value k)

  pub hand_keeps : (is_ok r ≡ false → d ≡ b) → Kept b → Kept d
  hand_keeps same = keeps_by b d r same (λ k. handed_kept b d from to slot (after k) (hand_may k))
