-- Why a board is a carrier. Only proofs: nothing here needs to be believed. Assumes nothing.
use Rattle.std.specs.Prelude.{◌≡◌, ℕ, ◌≤◌, Bool, true, not, ◌⊎◌, get_or, is_some, Some, None, Option, nat_le, slice_index_or, refl}
use Rattle.std.proofs.Common.{ap, ◌∙◌, inl, inr, arith}
use Rattle.std.proofs.lemmas.Bool.{and_parts, leb-true, not-true, cases_eq}
use Rattle.carrier.specs.Laws.{Lawful}
use Rattle.carrier.specs.Views.{is_slot}
use Rattle.roster.proofs.Checks.{guarded_none, guarded_some, none_some}
use Rattle.roster.proofs.Seats.{all_at, implied, seat_within}
use Rattle.roster.proofs.Voting.{none_at, said_code}
use Rattle.roster.specs.Counting.{is_seat, member}
use Rattle.roster.specs.Rosters.{sound}
use Rattle.board.specs.declared.board.Board.{Board}
use Rattle.board.specs.Meaning.{all_ten, handed, all_from, all_to, board_view, Kept}
use Rattle.board.specs.Places.{is_place, is_held_place, place, held_place, writing, holding}

ten_at : (p : ℕ → Bool) (i : ℕ) → 1 ≤ i → i ≤ 10 → all_ten p ≡ true → p i ≡ true
unfolding all_ten
ten_at p i lo hi e = all_at p 10 i lo hi e

slot_cases : (s : ℕ) → is_slot s ≡ true → (s ≡ 1) ⊎ (s ≡ 2)
slot_cases s e =
    let parts = and_parts (nat_le 1 s) (nat_le s 2) e in
    let lo = leb-true 1 s parts.0 in
    let hi = leb-true s 2 parts.1 in
    elim (cases_eq s 1) [ inl one ↦ inl one | inr other ↦ inr (omega arith) ]

some_same : (x : Option ℕ) (c d : ℕ) → x ≡ Some c → x ≡ Some d → c ≡ d
some_same x c d e f = cc

module _ (b : Board) where
  -- a sound seat is one of ten
  sound_within : (i : ℕ) → sound b.roster i ≡ true → (1 ≤ i) × (i ≤ 10)
  sound_within i e =
      let seat = and_parts (is_seat b.roster.size.n i) (not (member b.roster.faulty i)) e in
      let range = seat_within b.roster.size.n i seat.0 in
      (range.0, omega (arith, b.roster.size.few))

  slot_handed : (i o s : ℕ) → is_slot s ≡ true → all_from b i o ≡ true → handed b i o s ≡ true
  slot_handed i o s e all_two =
      let parts = and_parts (handed b i o 1) (handed b i o 2) all_two in
      elim (slot_cases s e) [ inl one ↦ rw one parts.0 | inr two ↦ rw two parts.1 ]

  -- when still, what is written is held by every sound seat
  reaches : Kept b → all_ten (all_to b) ≡ true → (j o s c : ℕ) → sound b.roster j ≡ true → writing b.written o s ≡ Some c → holding b.held j o s ≡ Some c
  reaches kept still j o s c snd w =
      let seat = sound_within j snd in
      let here = and_parts (is_seat 10 o) (is_slot s) (guarded_some (is_place o s) (slice_index_or b.written (place o s) None) c w).0 in
      let origin = seat_within 10 o here.0 in
      let to = implied (sound b.roster j) (all_ten (all_from b j)) (ten_at (all_to b) j seat.0 seat.1 still) snd in
      let from = ten_at (all_from b j) o origin.0 origin.1 to in
      let present = implied (is_some (writing b.written o s)) (is_some (holding b.held j o s)) (slot_handed j o s here.1 from) (ap is_some w) in
      let held = said_code (holding b.held j o s) present in
      held.1 ∙ ap Some (some_same (writing b.written o s) held.0 c (kept j o s held.0 held.1) w)

  blank_written : not b.touched ≡ true → (o s : ℕ) → writing b.written o s ≡ None
  blank_written u o s =
      guarded_none (is_place o s) _ (ap (λ ws. get_or ws (place o s) None) (b.unwritten (not-true b.touched u)) ∙ none_at 20 (place o s))

  blank_held : not b.touched ≡ true → (i o s : ℕ) → holding b.held i o s ≡ None
  blank_held u i o s =
      guarded_none (is_held_place i o s) _ (ap (λ hs. get_or hs (held_place i o s) None) (b.unheld (not-true b.touched u)) ∙ none_at 200 (held_place i o s))

  pub fresh_kept : not b.touched ≡ true → Kept b
  fresh_kept u i o s c e = absurd (none_some (holding b.held i o s) c (blank_held u i o s) e)

  pub board_lawful : Kept b → Lawful (board_view b)
  board_lawful kept = record {
    one = λ i j o s c d si sj hi hj. some_same (writing b.written o s) c d (kept i o s c hi) (kept j o s d hj);
    from_put = λ i o s c si so h. rw so (kept i o s c h);
    spread = λ still i j o s c si sj h. reaches kept still j o s c sj (kept i o s c h);
    arrived = λ still j o s c sj so p. reaches kept still j o s c sj (guarded_some (sound b.roster o) (writing b.written o s) c p).1;
    matched = λ still. refl;
    no_put = λ u i s. guarded_none (sound b.roster i) _ (blank_written u i s);
    no_holding = λ u i o s. blank_held u i o s;
  }
