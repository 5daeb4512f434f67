-- How a scenario is gone through. Assumes nothing.
use Rattle.std.specs.Prelude.{◌≡◌, ℕ, ◌+◌, List, Some, None, Option}
use Rattle.carrier.specs.declared.history.Act.{Act}
use Rattle.scenario.specs.declared.line.Line.{Line}
use Rattle.scenario.specs.declared.line.Line.TheVariants.{Act as act_line, Settle as settle_line}
use Rattle.carrier.specs.declared.history.Act.TheVariants.{Still as still_act}
use Rattle.std.specs.List.{slice_get}

-- where a plan stands: its next line, or the one that it settles, and how many acts of that it chose
pub record Stand : Type 0 where
  pub lines : List Line
  pub at : ℕ
  pub settling : ℕ

-- Between settlings the lines are gone through in their order: an act is chosen as it stands, a settling begins with a question, and the run is over after the last line.
pub record Goes (p : Stand) (r : Option Act) (q : Stand) : Type 0 where
  pub same : q.lines ≡ p.lines
  pub act : p.settling ≡ 0 → (a : Act) → slice_get p.lines p.at ≡ Some (act_line a) → (r ≡ Some a) × (q.at ≡ p.at + 1) × (q.settling ≡ 0)
  pub settle : p.settling ≡ 0 → slice_get p.lines p.at ≡ Some settle_line → (r ≡ Some still_act) × (q.at ≡ p.at) × (q.settling ≡ 1)
  pub over : p.settling ≡ 0 → slice_get p.lines p.at ≡ None → r ≡ None
