-- What a line asks for, by its words. Assumes nothing.
use Rattle.std.specs.Prelude.{◌≡◌, ℕ, ◌⊎◌, List, [], ◌∷◌, length, Some, None, Ok, Err, vec_items, codes, Option, Result, Vec, ◌≢◌}
use Rattle.jobs.specs.declared.job.Job.{Job}
use Rattle.jobs.specs.declared.job.Job.TheVariants.{Write, Read}
use Rattle.jobs.specs.declared.job.NoJob.{NoJob}
use Rattle.jobs.specs.declared.job.NoJob.TheVariants.{Unknown, Numbers, Hex, Memory}
use Rattle.script.specs.Hex.{InHex}
use Rattle.script.specs.Numbers.{Follow}
use Rattle.script.specs.Words.{word_at, Silent, AreWords}
use Rattle.wire.specs.declared.letter.Letter.{Letter}

-- a word, and the four numbers of a letter
abbrev pub FourNumbers : List (List ℕ) → Letter → Type 0
FourNumbers ws l = Follow ws (l.kind ∷ l.origin ∷ l.slot ∷ l.code ∷ [])

-- a word, and bytes in hex
pub record OneHex (ws : List (List ℕ)) (bytes : List ℕ) : Type 0 where
  pub two : length ws ≡ 2
  pub hex : InHex (word_at ws 1) bytes

-- the bytes of the second and last word, or why there are none
abbrev pub Hexed : {A : Type 0} → List (List ℕ) → Result (Vec ℕ A) NoJob → Type 0
Hexed ws (Ok bytes) = OneHex ws (vec_items bytes)
Hexed ws (Err Unknown) = ⊥
Hexed ws (Err Numbers) = ⊥
Hexed ws (Err Hex) = (bytes : List ℕ) → OneHex ws bytes → ⊥
Hexed ws (Err Memory) = Unit {0}

abbrev pub Asks : List (List ℕ) → Job → Type 0
Asks ws (Write l) = (word_at ws 0 ≡ codes "write") × FourNumbers ws l
Asks ws (Read bytes) = (word_at ws 0 ≡ codes "read") × OneHex ws (vec_items bytes)

abbrev pub Asked : List (List ℕ) → Result (Option Job) NoJob → Type 0
Asked ws (Ok None) = Silent ws
Asked ws (Ok (Some job)) = Asks ws job
Asked ws (Err Unknown) = (Silent ws → ⊥) × (word_at ws 0 ≢ codes "write") × (word_at ws 0 ≢ codes "read")
Asked ws (Err Numbers) = (word_at ws 0 ≡ codes "write") × ((l : Letter) → FourNumbers ws l → ⊥)
Asked ws (Err Hex) = (word_at ws 0 ≡ codes "read") × ((bytes : List ℕ) → OneHex ws bytes → ⊥)
Asked ws (Err Memory) = Unit {0}

-- by the line's words, unless there was no memory for them
abbrev pub Parsed : List ℕ → Result (Option Job) NoJob → Type 0
Parsed line r = (r ≡ Err Memory) ⊎ ((ws : List (List ℕ)) × AreWords line ws × Asked ws r)
