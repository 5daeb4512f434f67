-- Two digits a byte. Assumes nothing.
use Rattle.std.proofs.Common.{◌≡◌, ℕ, zero, suc, ◌+◌, ◌*◌, ◌/◌, ◌%◌, ◌<◌, ◌≤◌, true, List, [], ◌∷◌, ◌++◌, length, get_or, take, Ok, Err, vec_items, Result, Vec, sym, refl, ap, ◌∙◌, arith}
use Rattle.std.specs.List.{AllByRecursion}
use Rattle.std.specs.Char.{digit_value}
use Rattle.std.specs.Fmt.{digit_glyph}
use Rattle.std.specs.Simd.{first_chunks}
use Rattle.std.proofs.lemmas.List.{take_more, ext_get_or}
use Rattle.std.proofs.lemmas.Bool.Decides.{nat_tests}
use Rattle.script.specs.declared.hex.NoHex.{NoHex}
use Rattle.script.specs.declared.hex.NoHex.TheVariants.{Digit, Odd, Memory}
use Rattle.script.specs.Hex.{hex_of, HexDigits, InHex, Decoded, ReadsBack}

hex_push : (bs : List ℕ) (b : ℕ) → hex_of (bs ++ (b ∷ [])) ≡ hex_of bs ++ hex_of (b ∷ [])
hex_push [] b = refl
hex_push (a ∷ bs) b = ap (λ l. digit_glyph true (a / 16) ∷ digit_glyph true (a % 16) ∷ l) (hex_push bs b)

-- what is written of one byte more
pub hex_more : (bs : List ℕ) (i : ℕ) → i < length bs → hex_of (take i bs) ++ (digit_glyph true (get_or bs i 0 / 16) ∷ digit_glyph true (get_or bs i 0 % 16) ∷ []) ≡ hex_of (take (i + 1) bs)
hex_more bs i within = sym (hex_push (take i bs) (get_or bs i 0)) ∙ ap hex_of (sym (take_more bs i 0 within))

glyph_value : (d : ℕ) → d < 16 → digit_value (digit_glyph true d) ≡ d
glyph_value d small = grind (arith, nat_tests)

abbrev Bytes : List ℕ → Type 0
Bytes bs = AllByRecursion (λ b. b < 256) bs

hex_digits : (bs : List ℕ) → Bytes bs → HexDigits (hex_of bs)
hex_digits [] all k h = omega arith
hex_digits (b ∷ bs) all zero h = rw (glyph_value (b / 16) (omega arith)) (omega arith)
hex_digits (b ∷ bs) all (suc zero) h = rw (glyph_value (b % 16) (omega arith)) (omega arith)
hex_digits (b ∷ bs) all (suc (suc k)) h = hex_digits bs all.1 k (omega arith)

hex_length : (bs : List ℕ) → length (hex_of bs) ≡ 2 * length bs
hex_length [] = refl
hex_length (b ∷ bs) = omega (arith, hex_length bs)

hex_pairs : (bs : List ℕ) → Bytes bs → (k : ℕ) → k < length bs → get_or bs k 0 ≡ 16 * digit_value (get_or (hex_of bs) (2 * k) 0) + digit_value (get_or (hex_of bs) (2 * k + 1) 0)
hex_pairs [] all k h = omega arith
hex_pairs (b ∷ bs) all zero h = rw (glyph_value (b / 16) (omega arith), glyph_value (b % 16) (omega arith)) (omega arith)
hex_pairs (b ∷ bs) all (suc k) h =
    let high : 2 * suc k ≡ suc (suc (2 * k)) = omega arith in
    let low : suc (suc (2 * k)) + 1 ≡ suc (suc (2 * k + 1)) = omega arith in
    rw (high, low) (hex_pairs bs all.1 k (omega arith))

-- two digits at a time
pub pair_at : (n : ℕ) (xs : List ℕ) (k : ℕ) → k < n → 2 * n ≤ length xs → (get_or (get_or (first_chunks 2 n xs) k []) 0 0 ≡ get_or xs (2 * k) 0) × (get_or (get_or (first_chunks 2 n xs) k []) 1 0 ≡ get_or xs (2 * k + 1) 0)
pair_at zero xs k lt fits = absurd (omega arith)
pair_at (suc n) [] k lt fits = absurd (omega arith)
pair_at (suc n) (x ∷ []) k lt fits = absurd (omega arith)
pair_at (suc n) (x ∷ y ∷ xs) zero lt fits = (refl, refl)
pair_at (suc n) (x ∷ y ∷ xs) (suc k) lt fits =
    let high : 2 * suc k ≡ suc (suc (2 * k)) = omega arith in
    let low : suc (suc (2 * k)) + 1 ≡ suc (suc (2 * k + 1)) = omega arith in
    rw (high, low) (pair_at n xs k (omega arith) (omega arith))

one_reading : (text bs cs : List ℕ) → InHex text bs → InHex text cs → bs ≡ cs
one_reading text bs cs p q =
    ext_get_or 0 bs cs (omega (arith, p.two, q.two)) (λ k h. p.pairs k h ∙ sym (q.pairs k (omega (arith, p.two, q.two))))

hex_is : (bs : List ℕ) → Bytes bs → InHex (hex_of bs) bs
hex_is bs all = record { digits = hex_digits bs all; two = hex_length bs; pairs = hex_pairs bs all }

-- what was written is read back
pub back : {A : Type 0} (text : List ℕ) (r : Result (Vec ℕ A) NoHex) → Decoded text r → ReadsBack text r
back text (Ok v) h bs all e = one_reading text (vec_items v) bs h (rw e (hex_is bs all))
back text (Err Digit) h bs all e = elim (h (rw e (hex_digits bs all))) [ ]
back text (Err Odd) h bs all e = let even : ⊥ = omega (arith, h.1, ap length e, hex_length bs) in elim even [ ]
back text (Err Memory) h bs all e = refl
