-- The arithmetic of quorums, over any properties of seats: all that later proofs count with. Assumes nothing.
use Rattle.std.proofs.Common.{◌≡◌, ℕ, zero, suc, ◌+◌, ◌-◌, ◌/◌, ◌%◌, ◌^◌, ◌<◌, ◌≤◌, Bool, true, false, cond, not, ◌&&◌, eqb, sym, refl, ap, ◌∙◌, ap₂, inl, inr, mod-lt, div-one, add-one, arith}
use lib.Arith.{lt-one}
use lib.Count.{ones, ones_step}
use Rattle.std.proofs.lemmas.Nat.{shr-shr, shr_below}
use Rattle.std.proofs.lemmas.Bool.{cases_eq}
use Rattle.roster.specs.Counting.{count, both, but, Some, member}

one_most : (b : Bool) → cond {A = ℕ} b 1 0 ≤ 1
one_most true = omega arith
one_most false = omega arith

pub count_most : (p : ℕ → Bool) (n : ℕ) → count p n ≤ n
count_most p zero = omega arith
count_most p (suc n) = omega (arith, one_most (p (suc n)), count_most p n)

one_mono : (a b : Bool) → (a ≡ true → b ≡ true) → cond {A = ℕ} a 1 0 ≤ cond b 1 0
one_mono true b h = rw (h refl) (omega arith)
one_mono false true h = omega arith
one_mono false false h = omega arith

-- more seats have a weaker property
pub count_mono : (p q : ℕ → Bool) (n : ℕ) → ((i : ℕ) → 1 ≤ i → i ≤ n → p i ≡ true → q i ≡ true) → count p n ≤ count q n
count_mono p q zero h = omega arith
count_mono p q (suc n) h =
    omega (arith, one_mono (p (suc n)) (q (suc n)) (h (suc n) (omega arith) (omega arith)), count_mono p q n (λ i lo hi. h i lo (omega arith)))

one_meet : (a b : Bool) → cond {A = ℕ} a 1 0 + cond b 1 0 ≤ 1 + cond (a && b) 1 0
one_meet true true = omega arith
one_meet true false = omega arith
one_meet false true = omega arith
one_meet false false = omega arith

-- two sets of seats that together are more than n share the rest
pub count_both : (p q : ℕ → Bool) (n : ℕ) → count p n + count q n ≤ n + count (both p q) n
count_both p q zero = omega arith
count_both p q (suc n) = omega (arith, one_meet (p (suc n)) (q (suc n)), count_both p q n)

one_but : (a b : Bool) → cond {A = ℕ} a 1 0 ≤ cond b 1 0 + cond (a && not b) 1 0
one_but true true = omega arith
one_but true false = omega arith
one_but false true = omega arith
one_but false false = omega arith

-- without the seats of f, at most so many are lost
pub count_but : (p f : ℕ → Bool) (n : ℕ) → count p n ≤ count f n + count (but p f) n
count_but p f zero = omega arith
count_but p f (suc n) = omega (arith, one_but (p (suc n)) (f (suc n)), count_but p f n)

one_not : (b : Bool) → cond {A = ℕ} b 1 0 + cond (not b) 1 0 ≡ 1
one_not true = refl
one_not false = refl

pub count_not : (p : ℕ → Bool) (n : ℕ) → count p n + count (λ i. not (p i)) n ≡ n
count_not p zero = refl
count_not p (suc n) = omega (arith, one_not (p (suc n)), count_not p n)

-- where any are counted, there is one
some_more : (p : ℕ → Bool) (n : ℕ) (here : Bool) → p (suc n) ≡ here → 1 ≤ cond here 1 0 + count p n → (1 ≤ count p n → Some n p) → Some (suc n) p
some_more p n true e h below = record { seat = suc n; low = omega arith; high = omega arith; has = e }
some_more p n false e h below =
    let s = below (omega arith) in
    record { seat = s.seat; low = s.low; high = omega (arith, s.high); has = s.has }

pub count_some : (p : ℕ → Bool) (n : ℕ) → 1 ≤ count p n → Some n p
count_some p zero h = absurd (omega arith)
count_some p (suc n) h = some_more p n (p (suc n)) refl h (count_some p n)

-- and where there is one, any are counted
pub count_at : (p : ℕ → Bool) (n i : ℕ) → 1 ≤ i → i ≤ n → p i ≡ true → 1 ≤ count p n
count_at p zero i lo hi e = absurd (omega arith)
count_at p (suc n) i lo hi e =
    elim (cases_eq i (suc n)) [
      | inl same ↦ let here : p (suc n) ≡ true = ap p (sym same) ∙ e in rw here (omega arith)
      | inr other ↦ omega (arith, count_at p n i lo (omega arith) e)
    ]

-- where none has it, none is counted
pub count_none : (p : ℕ → Bool) (n : ℕ) → ((i : ℕ) → p i ≡ false) → count p n ≡ 0
count_none p zero h = refl
count_none p (suc n) h = omega (arith, ap (λ b. cond {A = ℕ} b 1 0) (h (suc n)), count_none p n h)

one_none : (b : Bool) → cond {A = ℕ} b 1 0 ≡ 0 → b ≡ false
one_none true e = absurd (omega arith)
one_none false e = refl

-- where none is counted, none has it
pub none_has : (p : ℕ → Bool) (n i : ℕ) → 1 ≤ i → i ≤ n → count p n ≡ 0 → p i ≡ false
none_has p zero i lo hi e = absurd (omega arith)
none_has p (suc n) i lo hi e =
    elim (cases_eq i (suc n)) [
      | inl last ↦ ap p last ∙ one_none (p (suc n)) (omega arith)
      | inr other ↦ none_has p n i lo (omega arith) (omega arith)
    ]

-- the sound seats are all but at most t
pub many_sound : (f : ℕ → Bool) (n t : ℕ) → count f n ≤ t → n ≤ t + count (λ i. not (f i)) n
many_sound f n t few = omega (arith, count_not f n)

-- more than t seats hold a sound one
pub sound_some : (p f : ℕ → Bool) (n t : ℕ) → count f n ≤ t → t < count p n → Some n (but p f)
sound_some p f n t few more = count_some (but p f) n (omega (arith, count_but p f n))

-- two quorums meet in a sound seat
pub quorums_meet : (p q f : ℕ → Bool) (n t : ℕ) → count f n ≤ t → n + t < count p n + count q n → Some n (but (both p q) f)
quorums_meet p q f n t few more = sound_some (both p q) f n t few (omega (arith, count_both p q n))

-- the lowest seat first
count_first : (p : ℕ → Bool) (n : ℕ) → count p (suc n) ≡ cond (p 1) 1 0 + count (λ i. p (suc i)) n
count_first p zero = refl
count_first p (suc n) = omega (arith, count_first p n)

pub count_same : (p q : ℕ → Bool) (n : ℕ) → ((i : ℕ) → 1 ≤ i → i ≤ n → p i ≡ q i) → count p n ≡ count q n
count_same p q n h =
    omega (arith, count_mono p q n (λ i lo hi e. sym (h i lo hi) ∙ e), count_mono q p n (λ i lo hi e. h i lo hi ∙ e))

bit_first : (b : ℕ) → b < 2 → cond (eqb b 1) 1 0 ≡ b
bit_first zero h = refl
bit_first (suc zero) h = refl
bit_first (suc (suc b)) h = absurd (omega arith)

bit_next : (set i : ℕ) → 1 ≤ i → member set (suc i) ≡ member (set / 2) i
bit_next set i h =
    let next : 1 + (i - 1) ≡ suc i - 1 = omega arith in
    ap (λ x. eqb (x % 2) 1) (ap (λ k. set / 2 ^ k) (sym next) ∙ sym (shr-shr set 1 (i - 1)))

-- the seats in a set are counted by its bits
pub count_member : (n set : ℕ) → set < 2 ^ n → count (member set) n ≡ ones set
unfolding ones
count_member zero set h = ap ones (sym (lt-one h))
count_member (suc n) set h =
    count_first (member set) n
    ∙ ap₂ (λ x y. x + y) (ap (λ x. cond (eqb (x % 2) 1) 1 0) (div-one set) ∙ bit_first (set % 2) (mod-lt set (omega arith)))
    (count_same _ (member (set / 2)) n (λ i lo hi. bit_next set i lo) ∙ count_member n (set / 2) (shr_below set n 1 (rw add-one h)))
    ∙ sym (ones_step set)
