-- The rules look at the seats 1 to n only. Assumes nothing.
use Rattle.std.proofs.Common.{◌≡◌, ℕ, zero, suc, ◌≤◌, Bool, true, false, cond, not, ◌&&◌, eqb, ltb, leb, is_some, Some, None, Option, sym, refl, ap, ◌∙◌, ap₂, arith}
use Rattle.std.proofs.lemmas.Bool.{cond-true, cond-false}
use Rattle.roster.specs.Quorums.{one_sound, all_but_faulty, sound_rest}
use Rattle.roster.specs.Votes.{differs, is, passing, said, votes}
use Rattle.roster.specs.declared.decision.Decision.{Decision}
use Rattle.roster.specs.declared.decision.Decision.TheVariants.{Nothing, Code}
use Rattle.roster.proofs.Counting.{count_same}
use Rattle.settling.specs.declared.record.Record.{Record}
use Rattle.settling.specs.declared.record.Due.{Due}
use Rattle.settling.specs.declared.record.Due.TheVariants.{Flag, Vote, Decide}
use Rattle.roster.specs.declared.size.Size.{Size}
use Rattle.settling.specs.Layers.{Layer, decided_below, due_at, held_row, record_of, roster_of, size_n, size_t}
use Rattle.settling.specs.Rules.{ahead, bit, decides, decides_on, due, due_for, due_from, is_code, is_figure, leading, settled, settled_by, settled_from, support, tally}

abbrev pub Same : {A : Type 0} → ℕ → (ℕ → Option A) → (ℕ → Option A) → Type 0
Same n row other = (j : ℕ) → 1 ≤ j → j ≤ n → row j ≡ other j

pub passing_same : {A : Type 0} (n : ℕ) (row other : ℕ → Option A) (test : Option A → Bool) → Same n row other → passing n row test ≡ passing n other test
passing_same n row other test h = count_same (λ i. test (row i)) (λ i. test (other i)) n (λ i lo hi. ap test (h i lo hi))

module _ (n t : ℕ) (codes codes' : ℕ → Option ℕ) (h : Same n codes codes') where
  by_same : (v flag : ℕ) → settled_by n t codes v flag ≡ settled_by n t codes' v flag
  by_same v flag =
      ap₂ (λ a b. cond (eqb flag 1 && leb (one_sound t) a) (Some (Code v)) (cond (eqb flag 0 && leb (one_sound t) b) (Some Nothing) None))
      (passing_same n codes codes' (is v) h) (passing_same n codes codes' (differs v) h)

  from_same : (c f : Option ℕ) → settled_from n t codes c f ≡ settled_from n t codes' c f
  from_same None f = refl
  from_same (Some v) None = refl
  from_same (Some v) (Some flag) = by_same v flag

  pub settled_same : (flags flags' : ℕ → Option ℕ) → Same n flags flags' → Same n (settled n t codes flags) (settled n t codes' flags')
  unfolding settled
  settled_same flags flags' g j lo hi = from_same (codes j) (flags j) ∙ ap₂ (settled_from n t codes') (h j lo hi) (g j lo hi)

module _ (n : ℕ) (row row' : ℕ → Option Decision) (h : Same n row row') where
  support_same : (v : ℕ) → support n row v ≡ support n row' v
  support_same v = passing_same n row row' (is_code v) h

  ahead_same : (o : Option Decision) (lead : Decision × ℕ) → ahead n row o lead ≡ ahead n row' o lead
  ahead_same None lead = refl
  ahead_same (Some Nothing) lead = refl
  ahead_same (Some (Code v)) lead = ap (λ s. cond (ltb lead.1 s) (Code v, s) lead) (support_same v)

  leading_same : (k : ℕ) → k ≤ n → leading n row k ≡ leading n row' k
  leading_same zero le = refl
  leading_same (suc k) le =
      ahead_same (row (suc k)) (leading n row k) ∙ ap₂ (ahead n row') (h (suc k) (omega arith) le) (leading_same k (omega arith))

  pub tally_same : tally n row ≡ tally n row'
  unfolding tally
  tally_same = leading_same n (omega arith)

  pub bit_same : (t : ℕ) → bit n t row ≡ bit n t row'
  bit_same t = ap₂ (λ (x : Decision × ℕ) y. leb (sound_rest n t) x.1 && eqb x.1 y) tally_same (passing_same n row row' is_figure h)

  on_same : (t c : ℕ) → decides_on n t row c ≡ decides_on n t row' c
  on_same t c = ap (λ (x : Decision × ℕ). cond (eqb c 0) (Some (Decide Nothing)) (cond (eqb c 1 && leb (sound_rest n t) x.1) (Some (Decide x.0)) None)) tally_same

  pub decides_same : (t : ℕ) (o : Option Decision) → decides n t row o ≡ decides n t row' o
  decides_same t None = refl
  decides_same t (Some Nothing) = refl
  decides_same t (Some (Code c)) = on_same t c

-- what is due once no flag is
abbrev rest : ℕ → ℕ → Record → Option Decision → (ℕ → Option Decision) → Option Due
rest n t r below row = cond (not r.voted && leb (all_but_faulty n t) (said n row)) (Some (Vote (bit n t row))) (cond (is_some r.decided) None (decides n t row below))

module _ (n t : ℕ) (r : Record) (codes codes' flags flags' : ℕ → Option ℕ) (below : Option Decision) (h : Same n codes codes') (g : Same n flags flags') where
  abbrev rows : Same n (settled n t codes flags) (settled n t codes' flags')
  rows = settled_same n t codes codes' h flags flags' g

  rest_same : rest n t r below (settled n t codes flags) ≡ rest n t r below (settled n t codes' flags')
  rest_same =
      ap₂ (λ a b. cond (not r.voted && leb (all_but_faulty n t) a) (Some (Vote b)) (cond (is_some r.decided) None (decides n t (settled n t codes flags) below)))
      (passing_same n _ _ is_some rows) (bit_same n _ _ rows t)
      ∙ ap (λ x. cond (not r.voted && leb (all_but_faulty n t) (said n (settled n t codes' flags'))) (Some (Vote (bit n t (settled n t codes' flags')))) (cond (is_some r.decided) None x)) (decides_same n _ _ rows t below)

  for_same : (v : ℕ) → due_for n t r codes flags below v ≡ due_for n t r codes' flags' below v
  for_same v =
      ap₂ (λ a b. cond (not r.flagged && leb (all_but_faulty n t) a) (Some (Flag (leb (one_sound t) b))) (rest n t r below (settled n t codes flags))) (passing_same n codes codes' is_some h) (passing_same n codes codes' (is v) h)
      ∙ ap (λ x. cond (not r.flagged && leb (all_but_faulty n t) (said n codes')) (Some (Flag (leb (one_sound t) (votes n codes' v)))) x) rest_same

  from_same_code : (c : Option ℕ) → due_from n t r codes flags below c ≡ due_from n t r codes' flags' below c
  from_same_code None = refl
  from_same_code (Some v) = for_same v

  pub due_same : due n t r codes flags below ≡ due n t r codes' flags' below
  unfolding due
  due_same = from_same_code r.code

-- what is due, by the tests that a seat makes in their order, on any row that says what is settled
module _ (n t : ℕ) (r : Record) (codes flags : ℕ → Option ℕ) (below : Option Decision) where
  abbrev flag_test : Bool
  flag_test = not r.flagged && leb (all_but_faulty n t) (said n codes)

  abbrev vote_test : ℕ → ℕ → (ℕ → Option Decision) → Bool
  vote_test m s row = not r.voted && leb (all_but_faulty m s) (said m row)

  -- the row has numbers of its own, the same ones
  module _ (v : ℕ) (has : r.code ≡ Some v) (left : false ≡ flag_test) (m s : ℕ) (of_n : m ≡ n) (of_t : s ≡ t) (row : ℕ → Option Decision) (same : Same n row (settled n t codes flags)) where
    vote_same : vote_test m s row ≡ vote_test n t (settled n t codes flags)
    vote_same = ap₂ (λ a b. vote_test a b row) of_n of_t ∙ ap (λ k. not r.voted && leb (all_but_faulty n t) k) (passing_same n row _ is_some same)

    after_flag : due n t r codes flags below ≡ rest n t r below (settled n t codes flags)
    unfolding due
    after_flag = rw has (cond-false _ _ _ (sym left))

    pub due_vote : (f : Bool) → true ≡ vote_test m s row → f ≡ bit m s row → Some (Vote f) ≡ due n t r codes flags below
    due_vote f test is =
        ap (λ x. Some (Vote x)) (is ∙ ap₂ (λ a b. bit a b row) of_n of_t ∙ bit_same n row _ same t)
        ∙ sym (cond-true _ _ _ (sym vote_same ∙ sym test)) ∙ sym after_flag

    module _ (voted : false ≡ vote_test m s row) where
      after_vote : due n t r codes flags below ≡ cond (is_some r.decided) None (decides n t (settled n t codes flags) below)
      after_vote = after_flag ∙ cond-false _ _ _ (sym vote_same ∙ sym voted)

      pub due_over : true ≡ is_some r.decided → None ≡ due n t r codes flags below
      due_over d = sym (after_vote ∙ cond-true _ _ _ (sym d))

      pub due_decide : (x : Option Due) → false ≡ is_some r.decided → x ≡ decides m s row below → x ≡ due n t r codes flags below
      due_decide x d is =
          is ∙ ap₂ (λ a b. decides a b row below) of_n of_t ∙ decides_same n row _ same t below
          ∙ sym (after_vote ∙ cond-false _ _ _ (sym d))

-- what is due at a seat of a layer
pub due_is : (l : Layer) (seat : ℕ) (size : Size) (r : Record) (codes flags : ℕ → Option ℕ) (below : Option Decision) → size ≡ (roster_of l).size → r ≡ record_of l seat → below ≡ decided_below l seat → Same (size_n l) codes (held_row l seat 1) → Same (size_n l) flags (held_row l seat 2) → due size.n size.t r codes flags below ≡ due_at l seat
unfolding due_at
due_is l seat size r codes flags below a b c h g =
    ap₂ (λ (z : Size) x. due z.n z.t x codes flags below) a b
    ∙ ap (due (size_n l) (size_t l) (record_of l seat) codes flags) c
    ∙ due_same (size_n l) (size_t l) (record_of l seat) codes (held_row l seat 1) flags (held_row l seat 2) (decided_below l seat) h g
