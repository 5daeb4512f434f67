-- What happened on a carrier, and what holds of it. A history is a list of entries, the oldest first. Assumes nothing.
use Rattle.std.specs.Prelude.{◌≡◌, ℕ, ◌<◌, ◌≤◌, true, ◌⊎◌, List, [], ◌∷◌, ◌++◌, length, Some, None, Ok, Err, Option, Result, MatchOption}
use Rattle.std.specs.List.{slice_get}
use Rattle.roster.specs.declared.denial.Denial.{Denial}
use Rattle.roster.specs.declared.roster.Roster.{Roster}
use Rattle.roster.specs.Rosters.{sound}
use Rattle.carrier.specs.declared.history.Act.{Act}
use Rattle.carrier.specs.declared.history.Act.TheVariants.{Put as put_act, Move as move_act, Holds as holds_act, Still as still_act}
use Rattle.carrier.specs.declared.history.Answer.{Answer}
use Rattle.carrier.specs.declared.history.Answer.TheVariants.{Granted as granted, Denied as denied, Held as told, Still as still}
use Rattle.carrier.specs.declared.history.Entry.{Entry}
use Rattle.carrier.specs.Views.{View, put_denial, holds_denial, Put, Moved}

-- the entry at a place
abbrev pub At : List Entry → ℕ → Entry → Type 0
At h k e = slice_get h k ≡ Some e

-- an entry in which a put was granted
abbrev pub Granted : Entry → ℕ → ℕ → ℕ → Type 0
Granted e seat slot code = (e.act ≡ put_act seat slot code) × (e.answer ≡ granted)

-- an entry that tells what a seat holds
abbrev pub Told : Entry → ℕ → ℕ → ℕ → Option ℕ → Type 0
Told e seat origin slot held = (e.act ≡ holds_act seat origin slot) × (e.answer ≡ told held)

-- an entry that shows a code from an origin and slot: its put, or that a seat holds it
abbrev pub Shows : Entry → ℕ → ℕ → ℕ → Type 0
Shows e origin slot code = Granted e origin slot code ⊎ ((seat : ℕ) × Told e seat origin slot (Some code))

-- What holds of any history that began with a fresh carrier.
pub record Law (r : Roster) (h : List Entry) : Type 0 where
  -- whatever entries show from one origin and slot is one code
  pub one : (j k : ℕ) (e f : Entry) (o s c d : ℕ) → At h j e → At h k f → Shows e o s c → Shows f o s d → c ≡ d
  -- what a seat holds from a sound origin was put by it before
  pub from_put : (k : ℕ) (e : Entry) (i o s c : ℕ) → At h k e → Told e i o s (Some c) → sound r o ≡ true → (j : ℕ) × (f : Entry) × (j < k) × At h j f × Granted f o s c
  -- what was shown when the carrier was still is told of every seat from then on
  pub spread : (j m k : ℕ) (e g f : Entry) (i o s c : ℕ) (x : Option ℕ) → At h j e → At h m g → At h k f → j ≤ m → m ≤ k → Shows e o s c → g.still ≡ true → Told f i o s x → x ≡ Some c

abbrev pub grants : Result (Unit {0}) Denial → Answer
grants (Ok done) = granted
grants (Err d) = denied d

abbrev pub tells : Result (Option ℕ) Denial → Answer
tells (Ok held) = told held
tells (Err d) = denied d

-- what a call answers and does, by the meaning before it and after it
abbrev pub Answers : View → Act → Answer → View → Type 0
Answers v (put_act seat slot code) a w = MatchOption (put_denial v seat slot) ((a ≡ granted) × Put v seat slot code w) (λ d. (a ≡ denied d) × (w ≡ v))
Answers v (move_act by) a w = ((a ≡ granted) × Moved v w) ⊎ ((d : Denial) × (a ≡ denied d) × (w ≡ v))
Answers v (holds_act seat origin slot) a w = MatchOption (holds_denial v.fixed seat origin slot) (a ≡ told (v.held seat origin slot)) (λ d. a ≡ denied d) × (w ≡ v)
Answers v still_act a w = (a ≡ still v.still) × (w ≡ v)

abbrev pub Does : View → Entry → View → Type 0
Does v e w = Answers v e.act e.answer w × (e.still ≡ w.still)

-- each entry is the answer of its call, from one meaning to the next
abbrev pub Ran : View → List Entry → View → Type 0
Ran v [] w = w ≡ v
Ran v (e ∷ es) w = (u : View) × Does v e u × Ran u es w

-- the acts of a history are those that a plan chose, each in view of the entries before it
module _ {P : Type 0} (chooses : P → List Entry → Option Act → P → Type 0) where
  abbrev pub Chosen : P → List Entry → List Entry → P → Type 0
  Chosen p before [] q = q ≡ p
  Chosen p before (e ∷ es) q = (u : P) × chooses p before (Some e.act) u × Chosen u (before ++ (e ∷ [])) es q

  -- to the end of the plan, or to as many acts as are granted to it
  abbrev pub Planned : ℕ → P → List Entry → P → Type 0
  Planned most p h q = (u : P) × Chosen p [] h u × (((length h ≡ most) × (q ≡ u)) ⊎ chooses u h None q)
