-- What the tally answers, in other words: the figure with the most support, the lowest seat's at a tie. Assumes nothing.
use Rattle.std.specs.Prelude.{◌≡◌, ℕ, ◌<◌, ◌≤◌, ◌⊎◌, Some, Option}
use Rattle.roster.specs.declared.decision.Decision.{Decision}
use Rattle.roster.specs.declared.decision.Decision.TheVariants.{Nothing, Code}
use Rattle.settling.specs.Rules.{support}

module _ (n : ℕ) (row : ℕ → Option Decision) where
  -- of the seats up to k, the first origin that is settled as the leading figure: any figure before it has less support
  pub record First (k : ℕ) (lead : Decision × ℕ) : Type 0 where
    pub seat : ℕ
    pub code : ℕ
    pub low : 1 ≤ seat
    pub high : seat ≤ k
    pub is_settled : row seat ≡ Some (Code code)
    pub figure : lead.0 ≡ Code code
    pub count : lead.1 ≡ support n row code
    pub some : 1 ≤ lead.1
    pub before : (i w : ℕ) → 1 ≤ i → i < seat → row i ≡ Some (Code w) → support n row w < lead.1

  pub record Leads (lead : Decision × ℕ) : Type 0 where
    -- no figure has more support
    pub most : (v : ℕ) → support n row v ≤ lead.1
    pub first : ((lead.0 ≡ Nothing) × (lead.1 ≡ 0)) ⊎ First n lead
