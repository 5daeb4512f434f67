-- The faulty seats of a roster are counted by its bits. Assumes nothing.
use Rattle.std.proofs.Common.{◌≡◌, ℕ, ◌^◌, ◌<◌, leb}
use lib.Count.{ones}
use Rattle.std.proofs.lemmas.Bool.{lt-ltb}
use Rattle.roster.specs.Rosters.{bounded}
use Rattle.roster.proofs.Counting.{count_member}

pub bounded_bits : (n t set : ℕ) → set < 2 ^ n → leb (ones set) t ≡ bounded n t set
bounded_bits n t set h = rw (lt-ltb set (2 ^ n) h, count_member n set h)
