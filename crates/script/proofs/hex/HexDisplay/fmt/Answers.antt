use Rattle.std.proofs.Common.{◌≡◌, ◌/◌, ◌%◌, true, [], ◌∷◌, get_or, Some, ap, rules}
use Rattle.std.proofs.Output.{has_written_of_eq, has_written_append}
use Rattle.std.specs.Fmt.{digit_glyph, styled_digits_output}
use Rattle.std.proofs.lemmas.Fmt.{hex_byte}
use Rattle.script.proofs.Pairs.{hex_more}
use Rattle.script.proofs.hex.HexDisplay.fmt.Goals as goal

pub loop-b-preserved : goal.loop-b-preserved
loop-b-preserved g c = λ plain.
    let old = c.loop-b.invariant plain in
    let b = get_or c.args.self.now.0.now c.loop-b.b-index 0 in
    let text : styled_digits_output c.in_radix.result c.laid_out.result ≡ Some (digit_glyph true (b / 16) ∷ digit_glyph true (b % 16) ∷ []) =
    rw (c.laid_out.ensures, c.in_radix.ensures) (ap Some (hex_byte true b (search rules))) in
    let more = hex_more c.args.self.now.0.now c.loop-b.b-index (search rules) in
    has_written_of_eq _ _ _ _ _ more (has_written_append _ _ _ c.loop-b.f _ c.write.new.self old (search (rules, text)))
