-- A code as eight bytes, and back. Assumes nothing.
use Rattle.std.proofs.Common.{◌≡◌, ℕ, zero, suc, ◌+◌, ◌*◌, ◌/◌, ◌%◌, ◌^◌, ◌<◌, List, [], ◌∷◌, ap, ◌∙◌, mod-lt, div-one, arith, lit<}
use Rattle.wire.specs.Letters.{big_endian, value}

pub value_of_bytes : (n : ℕ) → n < 2 ^ 64 → value (big_endian 8 n) ≡ n
value_of_bytes n h = omega arith

pub bytes_of_value : (a b c d e f g h : ℕ) → a < 256 → b < 256 → c < 256 → d < 256 → e < 256 → f < 256 → g < 256 → h < 256 → let n : ℕ = value (a ∷ b ∷ c ∷ d ∷ e ∷ f ∷ g ∷ h ∷ []) in (n < 2 ^ 64) × (big_endian 8 n ≡ a ∷ b ∷ c ∷ d ∷ e ∷ f ∷ g ∷ h ∷ [])
bytes_of_value a b c d e f g h a< b< c< d< e< f< g< h< =
    let n : ℕ = value (a ∷ b ∷ c ∷ d ∷ e ∷ f ∷ g ∷ h ∷ []) in
    let at_7 : n / 256 ^ 7 % 256 ≡ a = omega arith in
    let at_6 : n / 256 ^ 6 % 256 ≡ b = omega arith in
    let at_5 : n / 256 ^ 5 % 256 ≡ c = omega arith in
    let at_4 : n / 256 ^ 4 % 256 ≡ d = omega arith in
    let at_3 : n / 256 ^ 3 % 256 ≡ e = omega arith in
    let at_2 : n / 256 ^ 2 % 256 ≡ f = omega arith in
    let at_1 : n / 256 ^ 1 % 256 ≡ g = omega arith in
    let at_0 : n / 256 ^ 0 % 256 ≡ h = omega arith in
    (omega arith, λ i. at_7 i ∷ at_6 i ∷ at_5 i ∷ at_4 i ∷ at_3 i ∷ at_2 i ∷ at_1 i ∷ at_0 i ∷ [])

-- as many digits of a number as are asked for, the lowest first
abbrev pub digits : ℕ → ℕ → ℕ → List ℕ
digits base zero n = []
digits base (suc k) n = n % base ∷ digits base k (n / base)

lowest : (k q r : ℕ) → r < 256 → digits 256 (suc k) (q * 256 + r) ≡ r ∷ digits 256 k q
lowest k q r h =
    let last : (q * 256 + r) % 256 ≡ r = omega arith in
    let rest : (q * 256 + r) / 256 ≡ q = omega arith in
    λ i. last i ∷ digits 256 k (rest i)

lowest_first : (a b c d e f g h s : ℕ) → a < 256 → b < 256 → c < 256 → d < 256 → e < 256 → f < 256 → g < 256 → h < 256 → s ≡ a * 256 ^ 7 + b * 256 ^ 6 + c * 256 ^ 5 + d * 256 ^ 4 + e * 256 ^ 3 + f * 256 ^ 2 + g * 256 + h → digits 256 8 (s + 0) ≡ h ∷ g ∷ f ∷ e ∷ d ∷ c ∷ b ∷ a ∷ []
lowest_first a b c d e f g h s a< b< c< d< e< f< g< h< is =
    let nested : s + 0 ≡ ((((((((0 * 256 + a) * 256 + b) * 256 + c) * 256 + d) * 256 + e) * 256 + f) * 256 + g) * 256 + h) = omega arith in
    ap (digits 256 8) nested ∙ lowest 7 _ h h< ∙ ap (λ l. h ∷ l) (lowest 6 _ g g<) ∙ ap (λ l. h ∷ g ∷ l) (lowest 5 _ f f<)
    ∙ ap (λ l. h ∷ g ∷ f ∷ l) (lowest 4 _ e e<) ∙ ap (λ l. h ∷ g ∷ f ∷ e ∷ l) (lowest 3 _ d d<) ∙ ap (λ l. h ∷ g ∷ f ∷ e ∷ d ∷ l) (lowest 2 _ c c<)
    ∙ ap (λ l. h ∷ g ∷ f ∷ e ∷ d ∷ c ∷ l) (lowest 1 _ b b<) ∙ ap (λ l. h ∷ g ∷ f ∷ e ∷ d ∷ c ∷ b ∷ l) (lowest 0 0 a a<)

-- a code whose bytes were swapped has them the low byte first
pub bytes_of_swapped : (n s : ℕ) → s ≡ n % 256 * 256 ^ 7 + n / 256 % 256 * 256 ^ 6 + n / 256 ^ 2 % 256 * 256 ^ 5 + n / 256 ^ 3 % 256 * 256 ^ 4 + n / 256 ^ 4 % 256 * 256 ^ 3 + n / 256 ^ 5 % 256 * 256 ^ 2 + n / 256 ^ 6 % 256 * 256 + n / 256 ^ 7 % 256 → digits 256 8 (s + 0) ≡ big_endian 8 n
bytes_of_swapped n s is =
    let small : (m : ℕ) → m % 256 < 256 = λ m. mod-lt m (lit< tt) in
    rw div-one (lowest_first _ _ _ _ _ _ _ _ s (small _) (small _) (small _) (small _) (small _) (small _) (small _) (small _) is)
