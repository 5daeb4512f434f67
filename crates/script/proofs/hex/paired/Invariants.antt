use Rattle.std.proofs.Common.{◌≡◌, ℕ, ◌+◌, ◌*◌, ◌<◌, length, get_or, vec_items}
use Rattle.std.specs.Char.{digit_value}
use Rattle.script.proofs.hex.paired.Given as goal

abbrev pub invariant-loop-high : goal.invariant-loop-high
invariant-loop-high l =
    (length (vec_items l.bytes) ≡ l.high-index)
    × ((j : ℕ) → j < l.high-index → get_or (vec_items l.bytes) j 0 ≡ 16 * digit_value (get_or l.digits (2 * j) 0) + digit_value (get_or l.digits (2 * j + 1) 0))
