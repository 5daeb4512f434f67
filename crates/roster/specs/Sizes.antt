-- The sizes that a roster may have. Assumes nothing.
use Rattle.std.specs.Prelude.{ℕ, ◌*◌, Bool, ◌&&◌, nat_le, nat_lt}

-- 1 to 10 seats, of which less than a third may be faulty
abbrev pub sized : ℕ → ℕ → Bool
sized n t = nat_le 1 n && (nat_le n 10 && nat_lt (3 * t) n)
