-- The bytes that a letter may have at each place, and the fronts that begin one. Assumes nothing.
use Rattle.std.proofs.Common.{◌≡◌, ℕ, zero, suc, ◌+◌, ◌-◌, ◌^◌, ◌<◌, ◌≤◌, min, true, T, ltb, List, [], ◌∷◌, ◌++◌, map, length, get_or, take, drop, replicate, sym, refl, ap, ◌∙◌, subst, ◌⊎◌, inl, inr, ⊎_elim, le_of_suc-le-suc, not-suc-le-zero, arith, lit<, length-append, length-drop}
use Rattle.std.specs.List.{range_with_len}
use Rattle.std.proofs.lemmas.List.FromFn.{fill_by_all}
use Rattle.std.proofs.lemmas.List.{get_or_append_left, get_or-append_right, get_or-drop, get_or-replicate, get_or-take, length-take-le}
use Rattle.std.proofs.lemmas.Bool.{cases_eq, cases_lt}
use Rattle.std.proofs.lemmas.Bool.Decides.{nat_tests}
use Rattle.wire.specs.declared.letter.Letter.{Letter}
use Rattle.wire.specs.Letters.{big_endian, bytes_of, value, proper, Proper, IsLetter, Begins, Longest, WordWithin}
use Rattle.wire.proofs.Codes.{bytes_of_value}

-- the smallest and the largest byte at each place before the code
abbrev pub head_lows : List ℕ
head_lows = 1 ∷ 0 ∷ 1 ∷ 1 ∷ 2 ∷ 0 ∷ 1 ∷ 1 ∷ 3 ∷ 0 ∷ 1 ∷ 1 ∷ 4 ∷ 0 ∷ 8 ∷ []

abbrev pub head_highs : List ℕ
head_highs = 1 ∷ 0 ∷ 1 ∷ 3 ∷ 2 ∷ 0 ∷ 1 ∷ 10 ∷ 3 ∷ 0 ∷ 1 ∷ 2 ∷ 4 ∷ 0 ∷ 8 ∷ []

-- and at each place
abbrev lows : List ℕ
lows = head_lows ++ replicate 8 0

abbrev highs : List ℕ
highs = head_highs ++ replicate 8 255

abbrev pub Allowed : ℕ → ℕ → Type 0
Allowed k b = (get_or lows k 0 ≤ b) × (b ≤ get_or highs k 0)

-- the first n bytes are allowed where they stand
abbrev pub Fit : List ℕ → ℕ → Type 0
Fit bs n = (k : ℕ) → k < n → Allowed k (get_or bs k 0)

below_or : (k n : ℕ) → k < n + 1 → (k < n) ⊎ (k ≡ n)
below_or k n lt = elim (cases_eq k n) [ inl e ↦ inr e | inr other ↦ inl (omega arith) ]

pub fit_more : (bs : List ℕ) (n : ℕ) → Fit bs n → Allowed n (get_or bs n 0) → Fit bs (n + 1)
fit_more bs n before here k lt = ⊎_elim (λ l. before k l) (λ e. rw e here) (below_or k n lt)

-- each number of one list is at most that of the other
abbrev AtMost : List ℕ → List ℕ → Type 0
AtMost [] ys = Unit {0}
AtMost (x ∷ xs) [] = Unit {0}
AtMost (x ∷ xs) (y ∷ ys) = (x ≤ y) × AtMost xs ys

at_most_at : (xs ys : List ℕ) → AtMost xs ys → length xs ≡ length ys → (k : ℕ) → k < length xs → get_or xs k 0 ≤ get_or ys k 0
at_most_at [] ys h e k lt = absurd (not-suc-le-zero lt)
at_most_at (x ∷ xs) [] h e k lt = absurd (omega arith)
at_most_at (x ∷ xs) (y ∷ ys) h e zero lt = h.0
at_most_at (x ∷ xs) (y ∷ ys) h e (suc k) lt = at_most_at xs ys h.1 (omega arith) k (le_of_suc-le-suc lt)

lows_fit : Fit lows 23
lows_fit k lt = (omega arith, at_most_at lows highs (omega arith) refl k lt)

pub length_letter : (l : Letter) → length (bytes_of l) ≡ 23
unfolding bytes_of
length_letter l = refl

-- a letter's numbers are allowed where they stand
abbrev pub InRange : Letter → Type 0
InRange l = Allowed 3 l.kind × Allowed 7 l.origin × Allowed 11 l.slot

pub in_range : (l : Letter) → proper l ≡ true → InRange l
in_range l p = ((grind (arith, nat_tests), grind (arith, nat_tests)), (grind (arith, nat_tests), grind (arith, nat_tests)), (grind (arith, nat_tests), grind (arith, nat_tests)))

is_proper : (l : Letter) → InRange l → proper l ≡ true
is_proper l r = grind (arith, nat_tests)

letter_fit : (l : Letter) → Proper l → Fit (bytes_of l) 23
unfolding bytes_of
letter_fit l p k lt =
    let r = in_range l p.ranges in
    (at_most_at lows (bytes_of l) (omega arith) refl k lt, at_most_at (bytes_of l) highs (omega arith) refl k lt)

-- 23 bytes that are allowed where they stand are a letter
module _ (bs : List ℕ) (whole : length bs ≡ 23) (fit : Fit bs 23) where
  abbrev at : ℕ → ℕ
  at k = get_or bs k 0

  abbrev spelt : Letter
  spelt = record { kind = at 3; origin = at 7; slot = at 11; code = value (at 15 ∷ at 16 ∷ at 17 ∷ at 18 ∷ at 19 ∷ at 20 ∷ at 21 ∷ at 22 ∷ []) }

  byte : (k : ℕ) → T (ltb k 23) → T (ltb (get_or highs k 0) 256) → at k < 256
  byte k t h = omega (arith, fit k (lit< t), lit< h)

  code_bytes : (spelt.code < 2 ^ 64) × (big_endian 8 spelt.code ≡ at 15 ∷ at 16 ∷ at 17 ∷ at 18 ∷ at 19 ∷ at 20 ∷ at 21 ∷ at 22 ∷ [])
  code_bytes = bytes_of_value _ _ _ _ _ _ _ _ (byte 15 tt tt) (byte 16 tt tt) (byte 17 tt tt) (byte 18 tt tt) (byte 19 tt tt) (byte 20 tt tt) (byte 21 tt tt) (byte 22 tt tt)

  spelt_proper : Proper spelt
  spelt_proper = record { ranges = is_proper spelt (fit 3 (lit< tt), fit 7 (lit< tt), fit 11 (lit< tt)); code = code_bytes.0 }

  fixed : (k : ℕ) → T (ltb k 23) → get_or highs k 0 ≡ get_or lows k 0 → at k ≡ get_or lows k 0
  fixed k t e = omega (arith, fit k (lit< t))

  fit_letter : IsLetter bs
  unfolding bytes_of
  fit_letter = (
    spelt,
    spelt_proper,
    fill_by_all at bs 23 0 whole (λ k lt. refl)
        ∙ (λ i. fixed 0 tt refl i ∷ fixed 1 tt refl i ∷ fixed 2 tt refl i ∷ at 3
        ∷ fixed 4 tt refl i ∷ fixed 5 tt refl i ∷ fixed 6 tt refl i ∷ at 7
        ∷ fixed 8 tt refl i ∷ fixed 9 tt refl i ∷ fixed 10 tt refl i ∷ at 11
        ∷ fixed 12 tt refl i ∷ fixed 13 tt refl i ∷ fixed 14 tt refl i ∷ sym code_bytes.1 i),
  )

-- bytes that are allowed where they stand begin the letter that goes on with the smallest bytes
fit_begins : (bs : List ℕ) → length bs ≤ 23 → Fit bs (length bs) → Begins bs
fit_begins bs small fit =
    let n : ℕ = length bs in
    let rest = drop n lows in (
      rest,
      fit_letter (bs ++ rest) (simp (length-append, length-drop) (omega arith))
          (λ k lt.
          ⊎_elim
          (λ h. subst (Allowed k) (sym (get_or_append_left bs rest 0 k h)) (fit k h))
          (λ h.
          let e : n + (k - n) ≡ k = omega arith in
          subst (Allowed k) (sym (get_or-append_right bs rest n k 0 refl h ∙ get_or-drop n lows (k - n) 0 ∙ ap (λ j. get_or lows j 0) e)) (lows_fit k lt))
          (cases_lt k n)),
    )

begins_fit : (bs : List ℕ) → Begins bs → (length bs ≤ 23) × Fit bs (length bs)
begins_fit bs (rest, (l, p, e)) =
    let small : length bs ≤ 23 = omega (arith, simp length-append at (ap length e), length_letter l) in
    (small, λ k lt. subst (Allowed k) (sym (ap (λ xs. get_or xs k 0) e) ∙ get_or_append_left bs rest 0 k lt) (letter_fit l p k (omega arith)))

-- the longest front that begins a letter ends at the bytes' end, at a letter's end, or before a byte that is not allowed there
pub longest_front : (bs : List ℕ) (place : ℕ) → place ≤ length bs → place ≤ 23 → Fit bs place → (place < length bs → place < 23 → Allowed place (get_or bs place 0) → ⊥) → Longest bs place
longest_front bs place within small fit stops =
    let long = length-take-le place bs within in
    record {
      within = within;
      begins = fit_begins (take place bs) (omega arith) (λ k lt. let h : k < place = omega arith in subst (Allowed k) (sym (get_or-take place bs k 0 h)) (fit k h));
      longest = λ k more in_bytes b.
          let len = length-take-le k bs in_bytes in
          let f = begins_fit (take k bs) b in
          stops (omega arith) (omega arith) (subst (Allowed place) (get_or-take k bs place 0 more) (f.1 place (omega arith)));
    }

-- what is allowed in the head
pub allowed_head : (k b : ℕ) → k < 15 → Allowed k b → (get_or head_lows k 0 ≤ b) × (b ≤ get_or head_highs k 0)
allowed_head k b h a = (omega (arith, get_or_append_left head_lows (replicate 8 0) 0 k h), omega (arith, get_or_append_left head_highs (replicate 8 255) 0 k h))

pub allowed_from : (k b : ℕ) → k < 15 → get_or head_lows k 0 ≤ b → b ≤ get_or head_highs k 0 → Allowed k b
allowed_from k b h low high = (omega (arith, get_or_append_left head_lows (replicate 8 0) 0 k h), omega (arith, get_or_append_left head_highs (replicate 8 255) 0 k h))

past_head : (xs : List ℕ) (b k : ℕ) → length xs ≡ 15 → 15 ≤ k → k < 23 → get_or (xs ++ replicate 8 b) k 0 ≡ b
past_head xs b k e h lt = get_or-append_right xs (replicate 8 b) 15 k 0 e h ∙ get_or-replicate 8 (k - 15) b 0 (omega arith)

-- past the head a letter has any byte
pub fit_past_head : (bs : List ℕ) (head n : ℕ) → n ≤ 23 → min n 15 ≤ head → ((k : ℕ) → get_or bs k 0 < 256) → Fit bs head → Fit bs n
fit_past_head bs head n small past bytes fit k lt =
    ⊎_elim (λ h. fit k (omega arith))
    (λ h.
    let low = past_head head_lows 0 k refl h (omega arith) in
    let high = past_head head_highs 255 k refl h (omega arith) in
    let byte = bytes k in
    (omega arith, omega arith))
    (cases_lt k 15)

-- a tag, a length and a byte of content, from the number that they write together
same_field : (a b c d tag len low high : ℕ) → a < 256 → b < 256 → c < 256 → d < 256 → T (ltb len 256) → T (ltb high 256) → value (tag ∷ 0 ∷ len ∷ low ∷ []) ≤ value (a ∷ b ∷ c ∷ d ∷ []) → value (a ∷ b ∷ c ∷ d ∷ []) ≤ value (tag ∷ 0 ∷ len ∷ high ∷ []) → (a ≡ tag) × (b ≡ 0) × (c ≡ len) × (low ≤ d) × (d ≤ high)
same_field a b c d tag len low high a< b< c< d< l h lo hi =
    let len< = lit< l in
    let high< = lit< h in
    (omega arith, omega arith, omega arith, omega arith, omega arith)

-- the head of a letter, as four numbers
pub record Head (bs : List ℕ) : Type 0 where
  pub kind : WordWithin bs 0 (value (1 ∷ 0 ∷ 1 ∷ 1 ∷ [])) (value (1 ∷ 0 ∷ 1 ∷ 3 ∷ []))
  pub origin : WordWithin bs 4 (value (2 ∷ 0 ∷ 1 ∷ 1 ∷ [])) (value (2 ∷ 0 ∷ 1 ∷ 10 ∷ []))
  pub slot : WordWithin bs 8 (value (3 ∷ 0 ∷ 1 ∷ 1 ∷ [])) (value (3 ∷ 0 ∷ 1 ∷ 2 ∷ []))
  pub code : WordWithin bs 12 (value (4 ∷ 0 ∷ 8 ∷ 0 ∷ [])) (value (4 ∷ 0 ∷ 8 ∷ 255 ∷ []))

pub letter_head : (bs : List ℕ) → IsLetter bs → Head bs
unfolding bytes_of
letter_head bs (l, p, e) =
    let r = in_range l p.ranges in
    subst Head (sym e) (record { kind = (omega arith, omega arith); origin = (omega arith, omega arith); slot = (omega arith, omega arith); code = (omega arith, omega arith) })

module _ (bs : List ℕ) (bytes : (k : ℕ) → get_or bs k 0 < 256) (whole : length bs ≡ 23) (fits : Head bs) where
  read_field : (k tag len low high : ℕ) → T (ltb len 256) → T (ltb high 256) → WordWithin bs k (value (tag ∷ 0 ∷ len ∷ low ∷ [])) (value (tag ∷ 0 ∷ len ∷ high ∷ [])) → (get_or bs k 0 ≡ tag) × (get_or bs (k + 1) 0 ≡ 0) × (get_or bs (k + 2) 0 ≡ len) × (low ≤ get_or bs (k + 3) 0) × (get_or bs (k + 3) 0 ≤ high)
  read_field k tag len low high l h r = same_field _ _ _ _ tag len low high (bytes k) (bytes (k + 1)) (bytes (k + 2)) (bytes (k + 3)) l h r.0 r.1

  abbrev all : List ℕ
  all = map (λ k. get_or bs k 0) (range_with_len 0 23)

  head_fit : Fit all 23
  head_fit k lt =
      let at_0 = read_field 0 1 1 1 3 tt tt fits.kind in
      let at_4 = read_field 4 2 1 1 10 tt tt fits.origin in
      let at_8 = read_field 8 3 1 1 2 tt tt fits.slot in
      let at_12 = read_field 12 4 8 0 255 tt tt fits.code in
      (at_most_at lows all (omega arith) refl k lt, at_most_at all highs (omega (arith, bytes 16, bytes 17, bytes 18, bytes 19, bytes 20, bytes 21, bytes 22)) refl k lt)

  pub head_letter : IsLetter bs
  head_letter = fit_letter bs whole (subst (λ xs. Fit xs 23) (sym (fill_by_all _ bs 23 0 whole (λ k lt. refl))) head_fit)
