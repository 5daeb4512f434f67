-- What holds of an agreement after any calls, whatever the faulty seats do. Assumes nothing.
use Rattle.std.specs.Prelude.{◌≡◌, ℕ, ◌≤◌, true, is_some, Some, None, Option, ◌≢◌}
use Rattle.roster.specs.declared.decision.Decision.{Decision}
use Rattle.roster.specs.declared.decision.Decision.TheVariants.{Nothing, Code}
use Rattle.roster.specs.declared.roster.Roster.{Roster}
use Rattle.roster.specs.Rosters.{sound}
use Rattle.agreement.specs.Views.{View}

-- a sound seat that put a code
pub record Putter (r : Roster) (puts : ℕ → Option ℕ) (code : ℕ) : Type 0 where
  pub seat : ℕ
  pub is_sound : sound r seat ≡ true
  pub put : puts seat ≡ Some code

-- two sound seats that put different codes
pub record Differ (r : Roster) (puts : ℕ → Option ℕ) : Type 0 where
  pub code : ℕ
  pub other : ℕ
  pub apart : code ≡ other → ⊥
  pub first : Putter r puts code
  pub second : Putter r puts other

module _ (v : View) where
  abbrev Sound : ℕ → Type 0
  Sound i = sound v.fixed.roster i ≡ true

  pub record Lawful : Type 0 where
    -- no two sound seats decide differently
    pub one : (i j : ℕ) (c d : Decision) → Sound i → Sound j → v.decided i ≡ Some c → v.decided j ≡ Some d → c ≡ d
    -- a decision for a code can be traced to a sound seat's put
    pub from_put : (i c : ℕ) → Sound i → v.decided i ≡ Some (Code c) → Putter v.fixed.roster v.puts c
    -- and one for Nothing to two sound seats' unlike puts
    pub differ : (i : ℕ) → Sound i → v.decided i ≡ Some Nothing → Differ v.fixed.roster v.puts
    -- a plain agreement never decides Nothing
    pub plain : v.fixed.plain ≡ true → (i : ℕ) → Sound i → v.decided i ≢ Some Nothing
    -- once all sound seats have put, stillness leaves none of them undecided
    pub ends : v.still ≡ true → ((i : ℕ) → Sound i → is_some (v.puts i) ≡ true) → (i : ℕ) → Sound i → is_some (v.decided i) ≡ true
    -- no put exceeds the largest code
    pub within : (i c : ℕ) → v.puts i ≡ Some c → c ≤ v.fixed.largest
    -- an ill-matched agreement is never still
    pub matched : v.still ≡ true → v.fixed.matched ≡ true
    -- an untouched agreement has no put and no decision
    pub no_put : v.untouched ≡ true → (i : ℕ) → v.puts i ≡ None
    pub no_decision : v.untouched ≡ true → (i : ℕ) → v.decided i ≡ None
