-- What the tally and the bit say of the row that they are taken of. Assumes nothing.
use Rattle.std.proofs.Common.{◌≡◌, ℕ, zero, suc, ◌+◌, ◌*◌, ◌<◌, ◌≤◌, Bool, true, false, cond, not, ◌&&◌, eqb, ltb, ◌⊎◌, is_some, Some, None, Option, sym, refl, ap, ◌∙◌, subst, inl, inr, ⊎_elim, arith}
use Rattle.std.proofs.lemmas.Bool.{false≢true, and_parts, and_cases, cases_Bool, cases_eq, cases_lt, eqb-true, eqb-false, eq-eqb, le-leb, leb-true, leb-false, ltb-true, ltb-false, not-true}
use Rattle.roster.specs.Counting.{but}
use Rattle.roster.specs.Quorums.{all_but_faulty, sound_rest}
use Rattle.roster.specs.Votes.{passing, said}
use Rattle.roster.specs.declared.decision.Decision.{Decision}
use Rattle.roster.specs.declared.decision.Decision.TheVariants.{Nothing, Code}
use Rattle.roster.proofs.Counting.{count_at, count_but, count_mono, count_some}
use Rattle.roster.proofs.Voting.{passing_split}
use Rattle.settling.specs.Leads.{First, Leads}
use Rattle.settling.specs.Rules.{ahead, bit, figures, is_code, is_figure, is_nothing, leading, stands_out, support, tally}

pub is_code_why : (o : Option Decision) (v : ℕ) → is_code v o ≡ true → o ≡ Some (Code v)
is_code_why None v e = absurd (false≢true e)
is_code_why (Some Nothing) v e = absurd (false≢true e)
is_code_why (Some (Code w)) v e = ap (λ x. Some (Code x)) (eqb-true w v e)

pub code_is : (o : Option Decision) (v : ℕ) → o ≡ Some (Code v) → is_code v o ≡ true
code_is o v e = rw e (eq-eqb v v refl)

pub is_nothing_why : (o : Option Decision) → is_nothing o ≡ true → o ≡ Some Nothing
is_nothing_why None e = absurd (false≢true e)
is_nothing_why (Some Nothing) e = refl
is_nothing_why (Some (Code w)) e = absurd (false≢true e)

code_figure : (o : Option Decision) (v : ℕ) → is_code v o ≡ true → is_figure o ≡ true
code_figure o v e = ap is_figure (is_code_why o v e)

another_why : (o : Option Decision) (v : ℕ) → (is_figure o && not (is_code v o)) ≡ true → (w : ℕ) × (o ≡ Some (Code w)) × (w ≡ v → ⊥)
another_why None v e = absurd (false≢true e)
another_why (Some Nothing) v e = absurd (false≢true e)
another_why (Some (Code w)) v e = (w, refl, eqb-false w v (not-true (eqb w v) e))

-- settled as v or as Nothing
abbrev pub leans : ℕ → Option Decision → Bool
leans v None = false
leans v (Some Nothing) = true
leans v (Some (Code w)) = eqb w v

one_settled : (o : Option Decision) → cond {A = ℕ} (is_some o) 1 0 ≡ cond (is_figure o) 1 0 + cond (is_nothing o) 1 0
one_settled None = refl
one_settled (Some Nothing) = refl
one_settled (Some (Code w)) = refl

one_leans : (v : ℕ) (o : Option Decision) → cond {A = ℕ} (leans v o) 1 0 ≡ cond (is_code v o) 1 0 + cond (is_nothing o) 1 0
one_leans v None = refl
one_leans v (Some Nothing) = refl
one_leans v (Some (Code w)) = omega arith

pub leans_why : (o : Option Decision) (v w : ℕ) → leans v o ≡ true → o ≡ Some (Code w) → w ≡ v
leans_why o v w e f = eqb-true w v (sym (ap (leans v) f) ∙ e)

module _ (n : ℕ) (row : ℕ → Option Decision) where
  abbrev lead : ℕ → Decision × ℕ
  lead = leading n row

  grows : (o : Option Decision) (l : Decision × ℕ) → l.1 ≤ (ahead n row o l).1
  grows None l = omega arith
  grows (Some Nothing) l = omega arith
  grows (Some (Code v)) l =
      elim (cases_Bool (ltb l.1 (support n row v))) [
        | inl y ↦ rw y (omega (arith, ltb-true _ _ y))
        | inr f ↦ rw f (omega arith)
      ]

  passes : (v : ℕ) (l : Decision × ℕ) → support n row v ≤ (ahead n row (Some (Code v)) l).1
  passes v l =
      elim (cases_Bool (ltb l.1 (support n row v))) [
        | inl y ↦ rw y (omega arith)
        | inr f ↦ rw f (ltb-false _ _ f)
      ]

  reaches : (k j v : ℕ) → 1 ≤ j → j ≤ k → row j ≡ Some (Code v) → support n row v ≤ (lead k).1
  reaches zero j v lo hi e = absurd (omega arith)
  reaches (suc k) j v lo hi e =
      elim (cases_eq j (suc k)) [
        | inl same ↦ let here : row (suc k) ≡ Some (Code v) = subst (λ i. row i ≡ Some (Code v)) same e in rw here (passes v (lead k))
        | inr other ↦ omega (arith, reaches k j v lo (omega arith) e, grows (row (suc k)) (lead k))
      ]

  abbrev Came : ℕ → Decision × ℕ → Type 0
  Came k l = ((l.0 ≡ Nothing) × (l.1 ≡ 0)) ⊎ First n row k l

  later : (k : ℕ) (l : Decision × ℕ) → Came k l → Came (suc k) l
  later k l (inl e) = inl e
  later k l (inr f) = inr (record {
    seat = f.seat;
    code = f.code;
    low = f.low;
    high = omega (arith, f.high);
    is_settled = f.is_settled;
    figure = f.figure;
    count = f.count;
    some = f.some;
    before = f.before;
  })

  next : (k : ℕ) (o : Option Decision) → row (suc k) ≡ o → Came k (lead k) → Came (suc k) (ahead n row o (lead k))
  next k None e c = later k (lead k) c
  next k (Some Nothing) e c = later k (lead k) c
  next k (Some (Code v)) e c =
      elim (cases_Bool (ltb (lead k).1 (support n row v))) [
        | inr f ↦ rw f (later k (lead k) c)
        | inl y ↦ rw y (inr (record {
          seat = suc k;
          code = v;
          low = omega arith;
          high = omega arith;
          is_settled = e;
          figure = refl;
          count = refl;
          some = omega (arith, ltb-true _ _ y);
          before = λ i w lo hi b. omega (arith, ltb-true _ _ y, reaches k i w lo (omega arith) b);
        }))
      ]

  came : (k : ℕ) → Came k (lead k)
  came zero = inl (refl, refl)
  came (suc k) = next k (row (suc k)) refl (came k)

  pub support_seat : (v : ℕ) → 1 ≤ support n row v → (j : ℕ) × (1 ≤ j) × (j ≤ n) × (row j ≡ Some (Code v))
  support_seat v some =
      let s = count_some (λ i. is_code v (row i)) n some in
      (s.seat, s.low, s.high, is_code_why (row s.seat) v s.has)

  most : (v : ℕ) → support n row v ≤ (lead n).1
  most v = elim (cases_lt 0 (support n row v)) [
    | inl some ↦ let (j, lo, hi, e) = support_seat v some in reaches n j v lo hi e
    | inr none ↦ omega arith
  ]

  pub tally_leads : Leads n row (tally n row)
  unfolding tally
  tally_leads = record { most = most; first = came n }

  pub lead_code : 1 ≤ (tally n row).1 → First n row n (tally n row)
  lead_code some = ⊎_elim (λ (e, z). absurd (omega arith)) (λ f. f) tally_leads.first

  pub said_parts : said n row ≡ figures n row + passing n row is_nothing
  said_parts = passing_split is_some is_figure is_nothing one_settled n row

  pub leans_parts : (v : ℕ) → passing n row (leans v) ≡ support n row v + passing n row is_nothing
  leans_parts v = passing_split (leans v) (is_code v) is_nothing (one_leans v) n row

  few_support : (v : ℕ) → support n row v ≤ figures n row
  few_support v = count_mono (λ i. is_code v (row i)) (λ i. is_figure (row i)) n (λ i lo hi e. code_figure (row i) v e)

  lead_few : (tally n row).1 ≤ figures n row
  lead_few = ⊎_elim (λ (e, z). omega arith) (λ f. omega (arith, f.count, few_support f.code)) tally_leads.first

pub tally_at : (n : ℕ) (row : ℕ → Option Decision) (i : ℕ) → i ≡ n → leading n row i ≡ tally n row
unfolding tally
tally_at n row i e = ap (leading n row) e

-- one figure stands out: enough origins are settled as it, and the others as Nothing
pub record StandsOut (n t : ℕ) (row : ℕ → Option Decision) : Type 0 where
  pub code : ℕ
  pub enough : sound_rest n t ≤ support n row code
  pub rest : all_but_faulty n t ≤ passing n row (leans code)

-- two origins are settled as two figures
pub record TwoFigures (n : ℕ) (row : ℕ → Option Decision) : Type 0 where
  pub seat : ℕ
  pub other_seat : ℕ
  pub code : ℕ
  pub other : ℕ
  pub apart : code ≡ other → ⊥
  pub low : 1 ≤ seat
  pub other_low : 1 ≤ other_seat
  pub high : seat ≤ n
  pub other_high : other_seat ≤ n
  pub first : row seat ≡ Some (Code code)
  pub second : row other_seat ≡ Some (Code other)

module _ (n t : ℕ) (third : 3 * t < n) (row : ℕ → Option Decision) where
  pub stands_when : (v : ℕ) → sound_rest n t ≤ support n row v → stands_out n t row ≡ true
  stands_when v enough = le-leb _ _ (omega (arith, (tally_leads n row).most v))

  pub stands_why : stands_out n t row ≡ true → First n row n (tally n row)
  stands_why e = lead_code n row (omega (arith, leb-true _ _ e))

  pub bit_one : bit n t row ≡ true → all_but_faulty n t ≤ said n row → StandsOut n t row
  bit_one e settled =
      let k = and_parts (stands_out n t row) _ e in
      let f = stands_why k.0 in
      let same = eqb-true _ _ k.1 in
      record {
        code = f.code;
        enough = omega (arith, leb-true _ _ k.0, f.count);
        rest = omega (arith, said_parts n row, leans_parts n row f.code, f.count);
      }

  figure_leads : (o : Option Decision) (j : ℕ) → 1 ≤ j → j ≤ n → row j ≡ o → is_figure o ≡ true → 1 ≤ (tally n row).1
  figure_leads None j lo hi e f = absurd (false≢true f)
  figure_leads (Some Nothing) j lo hi e f = absurd (false≢true f)
  figure_leads (Some (Code w)) j lo hi e f =
      omega (arith, count_at (λ i. is_code w (row i)) n j lo hi (code_is (row j) w e), (tally_leads n row).most w)

  second_figure : (tally n row).1 < figures n row → TwoFigures n row
  second_figure less =
      let s = count_some (λ i. is_figure (row i)) n (omega arith) in
      let some : 1 ≤ (tally n row).1 = figure_leads (row s.seat) s.seat s.low s.high refl s.has in
      let f = lead_code n row some in
      let x = count_some (but (λ i. is_figure (row i)) (λ i. is_code f.code (row i))) n (omega (arith, count_but (λ i. is_figure (row i)) (λ i. is_code f.code (row i)) n, f.count)) in
      let (w, e, ne) = another_why (row x.seat) f.code x.has in
      record {
        seat = x.seat;
        other_seat = f.seat;
        code = w;
        other = f.code;
        apart = ne;
        low = x.low;
        other_low = f.low;
        high = x.high;
        other_high = f.high;
        first = e;
        second = f.is_settled;
      }

  pub bit_zero : bit n t row ≡ false → all_but_faulty n t ≤ said n row → TwoFigures n row ⊎ (t < passing n row is_nothing)
  bit_zero e settled =
      elim (cases_lt (tally n row).1 (figures n row)) [
        | inl less ↦ inl (second_figure less)
        | inr all ↦ elim (and_cases (stands_out n t row) _ e) [
          | inl few ↦ inr (omega (arith, leb-false _ _ few, said_parts n row))
          | inr ne ↦ absurd (eqb-false _ _ ne (omega (arith, lead_few n row)))
        ]
      ]
