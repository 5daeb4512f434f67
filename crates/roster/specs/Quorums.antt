-- How many seats make a quorum among n of which any t may be faulty, and what each quorum is good for. Assumes nothing.
use Rattle.std.specs.Prelude.{ℕ, ◌+◌, ◌-◌, ◌*◌, ◌/◌, ◌<◌, ◌≤◌, Bool, not}
use Rattle.roster.specs.Counting.{count, both, but, Some}

-- more than (n + t) / 2
abbrev pub echo_quorum : ℕ → ℕ → ℕ
echo_quorum n t = (n + t) / 2 + 1

abbrev pub one_sound : ℕ → ℕ
one_sound t = t + 1

abbrev pub ready_quorum : ℕ → ℕ
ready_quorum t = 2 * t + 1

abbrev pub all_but_faulty : ℕ → ℕ → ℕ
all_but_faulty n t = n - t

-- how many of any n - t are sound at the least
abbrev pub sound_rest : ℕ → ℕ → ℕ
sound_rest n t = n - 2 * t

module _ (n t : ℕ) where
  -- any two sets of k seats share a sound one
  abbrev pub Meet : ℕ → Type 0
  Meet k = (faulty p q : ℕ → Bool) → count faulty n ≤ t → k ≤ count p n → k ≤ count q n → Some n (but (both p q) faulty)

  -- of k seats one is sound
  abbrev pub HasSound : ℕ → Type 0
  HasSound k = (faulty p : ℕ → Bool) → count faulty n ≤ t → k ≤ count p n → Some n (but p faulty)

  -- of k seats more than t are sound
  abbrev pub MostlySound : ℕ → Type 0
  MostlySound k = (faulty p : ℕ → Bool) → count faulty n ≤ t → k ≤ count p n → t < count (but p faulty) n

  -- any k seats and any m seats share one
  abbrev pub Share : ℕ → ℕ → Type 0
  Share k m = (p q : ℕ → Bool) → k ≤ count p n → m ≤ count q n → Some n (both p q)

  -- the sound seats are at least k
  abbrev pub Reached : ℕ → Type 0
  Reached k = (faulty : ℕ → Bool) → count faulty n ≤ t → k ≤ count (λ i. not (faulty i)) n

-- whatever seats are faulty, so long as they are at most t
pub record Quorums (n t : ℕ) : Type 0 where
  pub echoes_meet : Meet n t (echo_quorum n t)
  pub echoes_reached : Reached n t (echo_quorum n t)
  pub one_is_sound : HasSound n t (one_sound t)
  pub readies_sound : MostlySound n t (ready_quorum t)
  pub readies_reached : Reached n t (ready_quorum t)
  pub rest_reached : Reached n t (all_but_faulty n t)
  pub rests_share : Share n t (sound_rest n t) (all_but_faulty n t)
