-- How the umpire rules: on n, t and what all seats have put, once a code was put. Assumes nothing.
use Rattle.std.specs.Prelude.{ℕ, cond, Some, None, Option, nat_le}
use Rattle.roster.specs.declared.decision.Decision.{Decision}
use Rattle.roster.specs.declared.decision.Decision.TheVariants.{Nothing, Code}
use Rattle.roster.specs.Quorums.{one_sound, all_but_faulty}
use Rattle.roster.specs.Votes.{said, votes}

module _ (n t : ℕ) (puts : ℕ → Option ℕ) (code : ℕ) where
  -- the code, if so many put it that one of them is sound; else Nothing, if only the faulty may be missing
  abbrev pub rules_on : Option Decision
  rules_on =
      cond (nat_le (one_sound t) (votes n puts code)) (Some (Code code))
      (cond (nat_le (all_but_faulty n t) (said n puts)) (Some Nothing)
      None)

  -- a ruling once made never changes
  abbrev pub ruled : Option Decision → Option Decision
  ruled None = rules_on
  ruled (Some ruling) = Some ruling
