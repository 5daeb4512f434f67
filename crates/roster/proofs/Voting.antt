-- Counting who said what. Assumes nothing.
use Rattle.std.proofs.Common.{◌≡◌, ℕ, zero, suc, ◌+◌, ◌-◌, ◌<◌, ◌≤◌, Bool, true, false, cond, not, eqb, ◌≢◌, ◌⊎◌, List, length, take, get_or, set, replicate, is_some, Some, None, Option, sym, refl, ap, ◌∙◌, subst, inl, inr, add-one, arith}
use Rattle.std.proofs.lemmas.List.{get_or-set_same, get_or-set_other}
use Rattle.std.proofs.lemmas.Bool.{false≢true, eqb-true, eq-eqb, not-true, not_from_false, ne_eqb, eqb-false, cases_eq}
use Rattle.roster.specs.Votes.{by_seat, is, differs, passing, said, votes, others}
use Rattle.std.specs.Prelude.{count_by}
use Rattle.std.proofs.lemmas.List.Sums.{count_by_more_no, count_by_more_yes}
use Rattle.roster.proofs.Counting.{count_mono}

-- one more seat of a list
pub passing_step : {A : Type 0} (test : Option A → Bool) (xs : List (Option A)) (n : ℕ) (b : Bool) → b ≡ test (get_or xs n None) → passing (n + 1) (by_seat xs) test ≡ cond b 1 0 + passing n (by_seat xs) test
passing_step test xs n b e =
    let same : suc n - 1 ≡ n = omega arith in
    rw add-one (ap (λ i. cond {A = ℕ} (test (get_or xs i None)) 1 0 + passing n (by_seat xs) test) same ∙ ap (λ x. cond {A = ℕ} x 1 0 + passing n (by_seat xs) test) (sym e))

list_step : {A : Type 0} (test : Option A → Bool) (xs : List (Option A)) (n : ℕ) (b : Bool) → n < length xs → test (get_or xs n None) ≡ b → count_by test (take (n + 1) xs) ≡ cond b 1 0 + count_by test (take n xs)
list_step test xs n true l e = omega (arith, count_by_more_yes test xs n None l e)
list_step test xs n false l e = omega (arith, count_by_more_no test xs n None l e)

-- whoever stands in the front of a list is counted there
pub passing_list : {A : Type 0} (test : Option A → Bool) (xs : List (Option A)) (n : ℕ) → n ≤ length xs → count_by test (take n xs) ≡ passing n (by_seat xs) test
passing_list test xs zero h = refl
passing_list test xs (suc n) h =
    let one = list_step test xs n (test (get_or xs n None)) (omega arith) refl in
    subst (λ k. count_by test (take k xs) ≡ passing k (by_seat xs) test) (add-one n) (omega (arith, one, passing_list test xs n (omega arith), passing_step test xs n _ refl))

-- a new entry of a list, and the others
module _ {A : Type 0} (xs : List (Option A)) (seat : ℕ) (x : Option A) where
  pub seat_new : 1 ≤ seat → seat ≤ length xs → by_seat (set xs (seat - 1) x) seat ≡ x
  seat_new lo hi = get_or-set_same xs (seat - 1) x None (omega arith)

  pub seat_old : (i : ℕ) → 1 ≤ seat → 1 ≤ i → (i ≡ seat → ⊥) → by_seat (set xs (seat - 1) x) i ≡ by_seat xs i
  seat_old i lo here other =
      let apart : i - 1 ≢ seat - 1 = λ e. other (omega arith) in
      get_or-set_other xs (seat - 1) (i - 1) x None apart

  pub new_or_old : (i : ℕ) → 1 ≤ seat → seat ≤ length xs → (by_seat (set xs (seat - 1) x) i ≡ x) ⊎ (by_seat (set xs (seat - 1) x) i ≡ by_seat xs i)
  new_or_old i lo hi =
      elim (cases_eq (i - 1) (seat - 1)) [
        | inl same ↦ inl (ap (λ k. get_or (set xs (seat - 1) x) k None) same ∙ seat_new lo hi)
        | inr apart ↦ inr (get_or-set_other xs (seat - 1) (i - 1) x None apart)
      ]

pub none_at : {A : Type 0} (n k : ℕ) → get_or {A = Option A} (replicate n None) k None ≡ None
none_at zero k = refl
none_at (suc n) zero = refl
none_at (suc n) (suc k) = none_at n k

-- nobody has said anything on a blank list
pub blank_seat : {A : Type 0} (xs : List (Option A)) (n i : ℕ) → xs ≡ replicate n None → by_seat xs i ≡ None
blank_seat xs n i e = ap (λ ys. by_seat ys i) e ∙ none_at n (i - 1)

pub is_said : (o : Option ℕ) (v : ℕ) → o ≡ Some v → is v o ≡ true
is_said o v e = rw e (eq-eqb v v refl)

pub said_is : (o : Option ℕ) (v : ℕ) → is v o ≡ true → o ≡ Some v
said_is None v h = absurd (false≢true h)
said_is (Some w) v h = ap Some (eqb-true w v h)

pub said_code : (o : Option ℕ) → is_some o ≡ true → (v : ℕ) × (o ≡ Some v)
said_code None h = absurd (false≢true h)
said_code (Some v) h = (v, refl)

-- a seat that said something else
pub record Other (o : Option ℕ) (v : ℕ) : Type 0 where
  pub code : ℕ
  pub said : o ≡ Some code
  pub apart : code ≡ v → ⊥

pub said_other : (o : Option ℕ) (v : ℕ) → differs v o ≡ true → Other o v
said_other None v h = absurd (false≢true h)
said_other (Some w) v h = record { code = w; said = refl; apart = eqb-false w v (not-true (eqb w v) h) }

-- and the other way round
pub other_said : (o : Option ℕ) (v : ℕ) → Other o v → differs v o ≡ true
other_said o v x = rw x.said (not_from_false _ (ne_eqb x.code v x.apart))

one_way : (b : Bool) → ◌≡◌ {A = ℕ} 1 (cond b 1 0 + cond (not b) 1 0)
one_way true = refl
one_way false = refl

one_split : (o : Option ℕ) (v : ℕ) → cond {A = ℕ} (is_some o) 1 0 ≡ cond (is v o) 1 0 + cond (differs v o) 1 0
one_split None v = refl
one_split (Some w) v = one_way (eqb w v)

-- a test that is one of two others, never both
pub passing_split : {A : Type 0} (test left right : Option A → Bool) → ((o : Option A) → cond {A = ℕ} (test o) 1 0 ≡ cond (left o) 1 0 + cond (right o) 1 0) → (n : ℕ) (row : ℕ → Option A) → passing n row test ≡ passing n row left + passing n row right
passing_split test left right h zero row = refl
passing_split test left right h (suc n) row = omega (arith, h (row (suc n)), passing_split test left right h n row)

-- whoever said anything said v or something else
pub said_split : (n : ℕ) (row : ℕ → Option ℕ) (v : ℕ) → said n row ≡ votes n row v + others n row v
said_split n row v = passing_split is_some (is v) (differs v) (λ o. one_split o v) n row

-- whatever stands in one row stands in the other
abbrev pub Covers : {A : Type 0} → ℕ → (ℕ → Option A) → (ℕ → Option A) → Type 0
Covers {A} n row wider = (i : ℕ) (x : A) → 1 ≤ i → i ≤ n → row i ≡ Some x → wider i ≡ Some x

test_covers : {A : Type 0} (test : Option A → Bool) → test None ≡ false → (o p : Option A) → ((x : A) → o ≡ Some x → p ≡ Some x) → test o ≡ true → test p ≡ true
test_covers test none None p h e = absurd (false≢true (sym none ∙ e))
test_covers test none (Some x) p h e = ap test (h x refl) ∙ e

pub passing_covers : {A : Type 0} (test : Option A → Bool) → test None ≡ false → (n : ℕ) (row wider : ℕ → Option A) → Covers n row wider → passing n row test ≤ passing n wider test
passing_covers test none n row wider h =
    count_mono (λ i. test (row i)) (λ i. test (wider i)) n (λ i lo hi e. test_covers test none (row i) (wider i) (λ x. h i x lo hi) e)

-- more seats said v where more was said
pub votes_mono : (n : ℕ) (row next : ℕ → Option ℕ) (v : ℕ) → ((i : ℕ) → 1 ≤ i → row i ≡ Some v → next i ≡ Some v) → votes n row v ≤ votes n next v
votes_mono n row next v kept =
    count_mono _ _ n (λ i lo hi e. is_said (next i) v (kept i lo (said_is (row i) v e)))

one_not_zero : (o : Option ℕ) → ((v : ℕ) → o ≡ Some v → v ≤ 1) → differs 0 o ≡ true → is 1 o ≡ true
one_not_zero o bit h =
    let x = said_other o 0 h in
    let small = bit x.code x.said in
    let one : x.code ≡ 1 = elim (cases_eq x.code 0) [ inl e ↦ absurd (x.apart e) | inr ne ↦ omega arith ] in
    is_said o 1 (x.said ∙ ap Some one)

-- where nothing above 1 is said, all said 0 or 1
pub said_bits : (n : ℕ) (row : ℕ → Option ℕ) → ((i v : ℕ) → row i ≡ Some v → v ≤ 1) → said n row ≤ votes n row 0 + votes n row 1
said_bits n row bit =
    omega (arith, said_split n row 0, count_mono (λ i. differs 0 (row i)) (λ i. is 1 (row i)) n (λ i lo hi. one_not_zero (row i) (bit i)))
