use Rattle.std.proofs.Common.{take, arith, rules}
use Rattle.std.proofs.lemmas.List.{get_or-take, length-take-le}
use Rattle.wire.proofs.Fronts.{longest_front, allowed_head, allowed_from, fit_past_head, fit_more}
use Rattle.wire.proofs.reader.front.Goals as goal
use Rattle.wire.proofs.reader.front.Goals.{then-byte-place-via-then-byte-place, then-byte-place-via-else-byte-place+then-byte-place-2}

pub loop-place-preserved : goal.loop-place-preserved
loop-place-preserved c =
    let place = c.loop-place.place in
    let long = length-take-le c.min.result c.args.bytes.now (omega arith) in
    let same = get_or-take c.min.result c.args.bytes.now place 0 (omega (arith, long)) in
    fit_more c.args.bytes.now place c.loop-place.invariant (allowed_from place _ (omega (arith, long)) (omega (arith, same)) (omega (arith, same)))

pub returns-then-byte-place : goal.returns-then-byte-place
returns-then-byte-place c = longest_front _ _ (search rules) (search rules) c.loop-place.invariant
    (λ some small fits.
    let long = length-take-le c.min.result c.args.bytes.now (omega arith) in
    let head = allowed_head c.loop-place.place _ (omega (arith, long)) fits in
    let same = get_or-take c.min.result c.args.bytes.now c.loop-place.place 0 (omega (arith, long)) in
    elim c.then-byte-place.branch [ then-byte-place-via-then-byte-place w ↦ omega (arith, same) | then-byte-place-via-else-byte-place+then-byte-place-2 w ↦ omega (arith, same) ])

pub returns : goal.returns
returns c = longest_front _ _ (search rules) (search rules) (fit_past_head _ c.loop-place.place _ (search rules) (search rules) (search rules) c.loop-place.invariant) (search rules)
