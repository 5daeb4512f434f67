-- What is read from the bytes of a letter. Assumes nothing.
use Rattle.std.proofs.Common.{◌≡◌, ℕ, ◌%◌, ◌^◌, ◌<◌, List, [], ◌∷◌, length, sym, ap, ◌∙◌, subst, arith}
use Rattle.wire.specs.declared.field.Field.{Field}
use Rattle.wire.specs.declared.field.Fields.{Fields}
use Rattle.wire.specs.declared.letter.Letter.{Letter}
use Rattle.wire.specs.Fields.{content, letter_of, number_in, Cut, Parts}
use Rattle.wire.specs.Letters.{bytes_of, value, Proper, IsLetter}
use Rattle.wire.proofs.Codes.{value_of_bytes}
use Rattle.wire.proofs.Fronts.{in_range, length_letter}

number_back : (f : Field) (bs : List ℕ) (n : ℕ) → content f ≡ bs → value bs ≡ n → n < 2 ^ 64 → number_in f ≡ n
number_back f bs n e v h = ap (λ xs. value xs % 2 ^ 64) e ∙ omega arith

-- the numbers of a letter come back from its bytes
pub read_back : (l : Letter) (bs : List ℕ) (fs : Fields) → Proper l → bs ≡ bytes_of l → Cut bs fs → letter_of fs ≡ l
unfolding bytes_of
read_back l bs fs p e cut =
    let r = in_range l p.ranges in
    let c = subst (λ xs. Cut xs fs) e cut in
    let kind = number_back fs.kind (l.kind ∷ []) l.kind c.kind.holds (omega arith) (omega arith) in
    let origin = number_back fs.origin (l.origin ∷ []) l.origin c.origin.holds (omega arith) (omega arith) in
    let slot = number_back fs.slot (l.slot ∷ []) l.slot c.slot.holds (omega arith) (omega arith) in
    let code = number_back fs.code _ l.code c.code.holds (value_of_bytes l.code p.code) p.code in
    λ i. record { kind = kind i; origin = origin i; slot = slot i; code = code i }

pub parts : (bs : List ℕ) (fs : Fields) → IsLetter bs → Cut bs fs → Parts bs fs
parts bs fs (l, p, is) cut =
    let same = sym (read_back l bs fs p is cut) in
    record { cut = cut; is_proper = subst Proper same p; whole = is ∙ ap bytes_of same }

pub long_enough : (bs : List ℕ) → IsLetter bs → length bs ≡ 23
long_enough bs (l, p, is) = ap length is ∙ length_letter l
