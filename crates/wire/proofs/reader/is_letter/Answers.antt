use Rattle.std.proofs.Common.{refl, rules}
use Rattle.std.proofs.lemmas.Bool.{false≢true}
use Rattle.wire.proofs.Fronts.{letter_head, head_letter}
use Rattle.wire.proofs.Readings.{long_enough}
use Rattle.wire.proofs.reader.is_letter.Goals as goal

pub returns-then-bytes-ne-LETTER_LEN : goal.returns-then-bytes-ne-LETTER_LEN
returns-then-bytes-ne-LETTER_LEN c = (λ e. absurd (false≢true e), λ x. absurd (c.if-bytes-ne-LETTER_LEN.true (long_enough _ x)))

pub returns-then-not-word_within : goal.returns-then-not-word_within
returns-then-not-word_within c = (λ e. absurd (false≢true e), λ x. c.if-not-word_within.ensures.1 (letter_head _ x).kind)

pub returns-then-not-word_within-2 : goal.returns-then-not-word_within-2
returns-then-not-word_within-2 c = (λ e. absurd (false≢true e), λ x. c.if-not-word_within-2.ensures.1 (letter_head _ x).origin)

pub returns-then-not-word_within-3 : goal.returns-then-not-word_within-3
returns-then-not-word_within-3 c = (λ e. absurd (false≢true e), λ x. c.if-not-word_within-3.ensures.1 (letter_head _ x).slot)

pub returns : goal.returns
returns c = (
  λ e. head_letter _ (search rules) (search rules) (record {
    kind = c.if-not-word_within.ensures.0 refl;
    origin = c.if-not-word_within-2.ensures.0 refl;
    slot = c.if-not-word_within-3.ensures.0 refl;
    code = c.word_within-4.ensures.0 e;
  }),
  λ x. c.word_within-4.ensures.1 (letter_head _ x).code,
)
