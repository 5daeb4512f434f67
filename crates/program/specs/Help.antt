-- The call for help. Assumes nothing.
use Rattle.std.specs.Prelude.{◌≡◌, ℕ, ◌⊎◌, List, codes}

abbrev pub IsCall : List ℕ → Type 0
IsCall arg = (arg ≡ codes "--help") ⊎ (arg ≡ codes "-h")
