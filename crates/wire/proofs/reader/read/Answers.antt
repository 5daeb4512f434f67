use Rattle.std.proofs.Common.{refl, arith}
use Rattle.wire.proofs.Readings.{long_enough, parts, read_back}
use Rattle.wire.proofs.reader.read.Goals as goal

pub cut-requires : goal.cut-requires
cut-requires c = omega (arith, long_enough _ (c.if-is_letter.ensures.0 refl))

pub returns-then-is_letter : goal.returns-then-is_letter
returns-then-is_letter c = record {
  cases = parts _ _ (c.if-is_letter.ensures.0 refl) c.cut.ensures;
  back = λ l p e. read_back l _ _ p e c.cut.ensures;
}
