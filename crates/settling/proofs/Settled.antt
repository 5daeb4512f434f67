-- Why an origin is settled, and that it stays so. Assumes nothing.
use Rattle.std.proofs.Common.{◌≡◌, ℕ, ◌≤◌, ◌&&◌, eqb, leb, Some, None, Option, sym, refl, ap, ◌∙◌, inl, inr, arith}
use Rattle.std.proofs.lemmas.Bool.{and_parts, and_from, and_left, eqb-true, eq-eqb, le-leb, leb-true, cond-true, cond-false, cases_Bool, ne_eqb}
use Rattle.roster.specs.Quorums.{one_sound}
use Rattle.roster.specs.Votes.{votes, others, is, differs}
use Rattle.roster.specs.declared.decision.Decision.{Decision}
use Rattle.roster.specs.declared.decision.Decision.TheVariants.{Nothing, Code}
use Rattle.roster.proofs.Voting.{Covers, passing_covers}
use Rattle.settling.specs.Rules.{settled, settled_by, settled_from}

-- an origin is settled as the code that is held from it, or as Nothing
pub data Settles (n t : ℕ) (codes : ℕ → Option ℕ) (flag v : ℕ) (d : Decision) : Type 0 where
  on_code : flag ≡ 1 → d ≡ Code v → one_sound t ≤ votes n codes v → Settles n t codes flag v d
  on_nothing : flag ≡ 0 → d ≡ Nothing → one_sound t ≤ others n codes v → Settles n t codes flag v d

pub record Why (n t : ℕ) (codes flags : ℕ → Option ℕ) (j : ℕ) (d : Decision) : Type 0 where
  pub code : ℕ
  pub flag : ℕ
  pub held : codes j ≡ Some code
  pub flagged : flags j ≡ Some flag
  pub settles : Settles n t codes flag code d

some_same : {A : Type 0} (x y : A) → ◌≡◌ {A = Option A} (Some x) (Some y) → x ≡ y
some_same x y e = cc

none_some : {A X : Type 0} (x : A) → ◌≡◌ {A = Option A} None (Some x) → X
none_some x e = let z : ◌≡◌ {A = ℕ} 0 1 = cc in absurd (omega arith)

module _ (n t : ℕ) (codes : ℕ → Option ℕ) where
  by_why : (v flag : ℕ) (d : Decision) → settled_by n t codes v flag ≡ Some d → Settles n t codes flag v d
  by_why v flag d e =
      elim (cases_Bool (eqb flag 1 && leb (one_sound t) (votes n codes v))) [
        | inl y ↦
            let k = and_parts (eqb flag 1) _ y in
            on_code (eqb-true flag 1 k.0) (sym (some_same (Code v) d (sym (cond-true _ _ _ y) ∙ e))) (leb-true _ _ k.1)
        | inr f ↦ elim (cases_Bool (eqb flag 0 && leb (one_sound t) (others n codes v))) [
          | inl y ↦
              let k = and_parts (eqb flag 0) _ y in
              on_nothing (eqb-true flag 0 k.0) (sym (some_same Nothing d (sym (cond-false _ _ _ f ∙ cond-true _ _ _ y) ∙ e))) (leb-true _ _ k.1)
          | inr g ↦ none_some d (sym (cond-false _ _ _ f ∙ cond-false _ _ _ g) ∙ e)
        ]
      ]

  why_by : (v flag : ℕ) (d : Decision) → Settles n t codes flag v d → settled_by n t codes v flag ≡ Some d
  why_by v flag d (on_code f e k) = cond-true _ _ _ (and_from _ _ (eq-eqb flag 1 f) (le-leb _ _ k)) ∙ ap Some (sym e)
  why_by v flag d (on_nothing f e k) =
      cond-false _ _ _ (and_left _ _ (ne_eqb flag 1 (λ g. omega arith)))
      ∙ cond-true _ _ _ (and_from _ _ (eq-eqb flag 0 f) (le-leb _ _ k))
      ∙ ap Some (sym e)

  module _ (flags : ℕ → Option ℕ) (j : ℕ) (d : Decision) where
    from_why : (c f : Option ℕ) → codes j ≡ c → flags j ≡ f → settled_from n t codes c f ≡ Some d → Why n t codes flags j d
    from_why None f ec ef e = none_some d e
    from_why (Some v) None ec ef e = none_some d e
    from_why (Some v) (Some flag) ec ef e = record { code = v; flag = flag; held = ec; flagged = ef; settles = by_why v flag d e }

    pub settled_why : settled n t codes flags j ≡ Some d → Why n t codes flags j d
    unfolding settled
    settled_why e = from_why (codes j) (flags j) refl refl e

    pub why_settled : Why n t codes flags j d → settled n t codes flags j ≡ Some d
    unfolding settled
    why_settled w = rw (w.held, w.flagged) (why_by w.code w.flag d w.settles)

-- more that is held unsettles nothing
module _ (n t : ℕ) (codes wider : ℕ → Option ℕ) (more : Covers n codes wider) where
  pub votes_covers : (v : ℕ) → votes n codes v ≤ votes n wider v
  votes_covers v = passing_covers (is v) refl n codes wider more

  pub others_covers : (v : ℕ) → others n codes v ≤ others n wider v
  others_covers v = passing_covers (differs v) refl n codes wider more

  settles_covers : (flag v : ℕ) (d : Decision) → Settles n t codes flag v d → Settles n t wider flag v d
  settles_covers flag v d (on_code f e k) = on_code f e (omega (arith, votes_covers v))
  settles_covers flag v d (on_nothing f e k) = on_nothing f e (omega (arith, others_covers v))

  pub settled_covers : (flags wider_flags : ℕ → Option ℕ) → Covers n flags wider_flags → Covers n (settled n t codes flags) (settled n t wider wider_flags)
  settled_covers flags wider_flags more_flags j d lo hi e =
      let w = settled_why n t codes flags j d e in
      why_settled n t wider wider_flags j d (record {
        code = w.code;
        flag = w.flag;
        held = more j w.code lo hi w.held;
        flagged = more_flags j w.flag lo hi w.flagged;
        settles = settles_covers w.flag w.code d w.settles;
      })

-- whatever stands in both rows is the same
abbrev pub Agrees : ℕ → (ℕ → Option ℕ) → (ℕ → Option ℕ) → Type 0
Agrees n row other = (i v w : ℕ) → 1 ≤ i → i ≤ n → row i ≡ Some v → other i ≡ Some w → v ≡ w

settles_one : (n t : ℕ) (codes others : ℕ → Option ℕ) (f g v w : ℕ) (d e : Decision) → f ≡ g → v ≡ w → Settles n t codes f v d → Settles n t others g w e → d ≡ e
settles_one n t codes others f g v w d e x y (on_code a b k) (on_code a' b' k') = b ∙ ap Code y ∙ sym b'
settles_one n t codes others f g v w d e x y (on_code a b k) (on_nothing a' b' k') = absurd (omega arith)
settles_one n t codes others f g v w d e x y (on_nothing a b k) (on_code a' b' k') = absurd (omega arith)
settles_one n t codes others f g v w d e x y (on_nothing a b k) (on_nothing a' b' k') = b ∙ sym b'

-- seats that hold nothing different settle nothing differently
pub settled_one : (n t : ℕ) (codes flags codes' flags' : ℕ → Option ℕ) → Agrees n codes codes' → Agrees n flags flags' → (j : ℕ) (d e : Decision) → 1 ≤ j → j ≤ n → settled n t codes flags j ≡ Some d → settled n t codes' flags' j ≡ Some e → d ≡ e
settled_one n t codes flags codes' flags' ac af j d e lo hi p q =
    let w = settled_why n t codes flags j d p in
    let x = settled_why n t codes' flags' j e q in
    settles_one n t codes codes' w.flag x.flag w.code x.code d e (af j _ _ lo hi w.flagged x.flagged) (ac j _ _ lo hi w.held x.held) w.settles x.settles
