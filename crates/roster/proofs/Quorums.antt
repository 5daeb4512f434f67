-- Each quorum is good for what it is used for. Assumes nothing.
use Rattle.std.proofs.Common.{ℕ, ◌+◌, ◌*◌, ◌<◌, ◌≤◌, arith}
use Rattle.roster.specs.Quorums.{Meet, HasSound, MostlySound, Reached, Quorums}
use Rattle.roster.proofs.Counting.{count_both, count_but, count_some, many_sound, sound_some, quorums_meet}

module _ (n t k : ℕ) where
  meet : n + t < 2 * k → Meet n t k
  meet h faulty p q few kp kq = quorums_meet p q faulty n t few (omega arith)

  has_sound : t < k → HasSound n t k
  has_sound h faulty p few kp = sound_some p faulty n t few (omega arith)

  mostly_sound : 2 * t < k → MostlySound n t k
  mostly_sound h faulty p few kp = omega (arith, count_but p faulty n)

  reached : k + t ≤ n → Reached n t k
  reached h faulty few = omega (arith, many_sound faulty n t few)

pub quorums : (n t : ℕ) → 3 * t < n → Quorums n t
quorums n t h = record {
  echoes_meet = meet n t _ (omega arith);
  echoes_reached = reached n t _ (omega arith);
  one_is_sound = has_sound n t _ (omega arith);
  readies_sound = mostly_sound n t _ (omega arith);
  readies_reached = reached n t _ (omega arith);
  rest_reached = reached n t _ (omega arith);
  rests_share = λ p q kp kq. count_some _ n (omega (arith, count_both p q n));
}
