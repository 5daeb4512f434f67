-- What holds of a carrier after any calls, whatever the faulty seats do. Assumes nothing.
use Rattle.std.specs.Prelude.{◌≡◌, ℕ, true, Some, None}
use Rattle.roster.specs.Rosters.{sound}
use Rattle.carrier.specs.Views.{View}

module _ (v : View) where
  abbrev Sound : ℕ → Type 0
  Sound i = sound v.fixed.roster i ≡ true

  pub record Lawful : Type 0 where
    -- whatever sound seats hold from the same origin and slot is the same code
    pub one : (i j o s c d : ℕ) → Sound i → Sound j → v.held i o s ≡ Some c → v.held j o s ≡ Some d → c ≡ d
    -- a sound origin put what is held from it
    pub from_put : (i o s c : ℕ) → Sound i → Sound o → v.held i o s ≡ Some c → v.puts o s ≡ Some c
    -- when still, all sound seats hold what any of them holds or put
    pub spread : v.still ≡ true → (i j o s c : ℕ) → Sound i → Sound j → v.held i o s ≡ Some c → v.held j o s ≡ Some c
    pub arrived : v.still ≡ true → (j o s c : ℕ) → Sound j → Sound o → v.puts o s ≡ Some c → v.held j o s ≡ Some c
    -- an ill-matched carrier is never still
    pub matched : v.still ≡ true → v.fixed.matched ≡ true
    -- an untouched carrier has no put and no holding
    pub no_put : v.untouched ≡ true → (i s : ℕ) → v.puts i s ≡ None
    pub no_holding : v.untouched ≡ true → (i o s : ℕ) → v.held i o s ≡ None
