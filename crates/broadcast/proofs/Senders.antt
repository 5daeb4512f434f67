-- Sound senders among those that said a code. Assumes nothing.
use Rattle.std.proofs.Common.{◌≡◌, ℕ, ◌+◌, ◌<◌, ◌≤◌, Bool, true, not, ◌&&◌, leb, List, Some, Option, arith}
use Rattle.std.proofs.lemmas.Bool.{and_parts, and_from, le-leb, leb-true}
use Rattle.roster.specs.Counting.{count, but, is_seat}
use Rattle.roster.specs.Quorums.{echo_quorum, one_sound, ready_quorum}
use Rattle.roster.proofs.Counting.{count_but, count_mono, many_sound, sound_some, quorums_meet}
use Rattle.roster.specs.Votes.{by_seat}
use Rattle.broadcast.specs.Cells.{said, votes}
use Rattle.broadcast.proofs.Kept.{Sound}
use Rattle.roster.proofs.Voting.{is_said, said_is}

module _ (n t : ℕ) (faulty : ℕ → Bool) where
  pub seat_from : (i : ℕ) → 1 ≤ i → i ≤ n → not (faulty i) ≡ true → Sound n t faulty i
  seat_from i lo hi h = and_from (is_seat n i) (not (faulty i)) (and_from (leb 1 i) (leb i n) (le-leb 1 i lo) (le-leb i n hi)) h

  pub low_seat : (i : ℕ) → Sound n t faulty i → 1 ≤ i
  low_seat i h = leb-true 1 i (and_parts (leb 1 i) (leb i n) (and_parts (is_seat n i) (not (faulty i)) h).0).0

  -- of more than t senders one is sound
  pub sound_sender : (by : List (Option ℕ)) (v : ℕ) → count faulty n ≤ t → t < votes n by v → (q : ℕ) × (1 ≤ q) × Sound n t faulty q × (by_seat by q ≡ Some v)
  sound_sender by v few more =
      let s = sound_some (said by v) faulty n t few more in
      let h = and_parts (said by v s.seat) (not (faulty s.seat)) s.has in
      (s.seat, s.low, seat_from s.seat s.low s.high h.1, said_is (by_seat by s.seat) v h.0)

  -- two quorums of ECHOs share a sound sender
  pub shared_sender : (by by' : List (Option ℕ)) (v w : ℕ) → count faulty n ≤ t → echo_quorum n t ≤ votes n by v → echo_quorum n t ≤ votes n by' w
      → (q : ℕ) × (1 ≤ q) × Sound n t faulty q × (by_seat by q ≡ Some v) × (by_seat by' q ≡ Some w)
  shared_sender by by' v w few a b =
      let s = quorums_meet (said by v) (said by' w) faulty n t few (omega arith) in
      let h = and_parts (said by v s.seat && said by' w s.seat) (not (faulty s.seat)) s.has in
      let k = and_parts (said by v s.seat) (said by' w s.seat) h.0 in
      (s.seat, s.low, seat_from s.seat s.low s.high h.1, said_is (by_seat by s.seat) v k.0, said_is (by_seat by' s.seat) w k.1)

  -- all sound seats said it
  pub all_said : (by : List (Option ℕ)) (v : ℕ) → count faulty n ≤ t → ((q : ℕ) → Sound n t faulty q → by_seat by q ≡ Some v) → n ≤ t + votes n by v
  all_said by v few h = omega (
    arith,
    many_sound faulty n t few,
    count_mono (λ i. not (faulty i)) (said by v) n (λ i lo hi s. is_said (by_seat by i) v (h i (seat_from i lo hi s))),
  )

  -- what more than 2 t said in one list, and the sound of them in another, t + 1 said there
  pub sound_said : (by by' : List (Option ℕ)) (v : ℕ) → count faulty n ≤ t → ready_quorum t ≤ votes n by v
      → ((q : ℕ) → 1 ≤ q → Sound n t faulty q → by_seat by q ≡ Some v → by_seat by' q ≡ Some v) → one_sound t ≤ votes n by' v
  sound_said by by' v few k h = omega (
    arith,
    count_but (said by v) faulty n,
    count_mono (but (said by v) faulty) (said by' v) n (λ i lo hi e.
        let a = and_parts (said by v i) (not (faulty i)) e in
        is_said (by_seat by' i) v (h i lo (seat_from i lo hi a.1) (said_is (by_seat by i) v a.0))),
  )
