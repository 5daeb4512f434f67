use Rattle.std.proofs.Common.{◌≡◌, length, vec_items}
use Rattle.script.proofs.Follows.{Sofar}
use Rattle.script.proofs.line.Words.numbers.Given as goal

abbrev pub invariant-loop-word : goal.invariant-loop-word
invariant-loop-word l =
    (length (vec_items l.all) ≡ l.word-index) × Sofar l.self (vec_items l.all)
