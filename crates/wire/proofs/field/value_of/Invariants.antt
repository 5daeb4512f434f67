use Rattle.std.proofs.Common.{◌≡◌, ◌%◌, ◌^◌, take}
use Rattle.wire.specs.Letters.{value}
use Rattle.wire.proofs.field.value_of.Given as goal

abbrev pub invariant-loop-byte : goal.invariant-loop-byte
invariant-loop-byte l = l.sum ≡ value (take l.byte-index l.content) % 2 ^ 64
