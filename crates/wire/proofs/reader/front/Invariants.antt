use Rattle.wire.proofs.Fronts.{Fit}
use Rattle.wire.proofs.reader.front.Given as goal

abbrev pub invariant-loop-place : goal.invariant-loop-place
invariant-loop-place l = Fit l.bytes l.place
