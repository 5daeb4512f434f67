-- What follows which command. Assumes nothing.
use Rattle.std.proofs.Common.{◌≡◌, ℕ, List, Some, None, Option, sym, subst, MatchOption}
use Rattle.script.specs.Numbers.{Follow}
use Rattle.script.proofs.Follows.{follow_one}
use Rattle.scenario.specs.declared.command.Command.{Command}
use Rattle.scenario.specs.declared.command.Command.TheVariants.{Carrier as carrier}
use Rattle.scenario.specs.declared.line.Line.{Line}
use Rattle.scenario.specs.declared.line.Line.TheVariants.{Carrier as carrier_line, Roster as roster_line, Act as act_line, Settle as settle_line}
use Rattle.scenario.specs.Lines.{command_of, numbers_of, Rest}

module _ (ws : List (List ℕ)) (c : Command) (other : c ≡ carrier → ⊥) where
  pub rest_follow : (l : Line) → command_of l ≡ c → Rest ws l → Follow ws (numbers_of l)
  rest_follow (carrier_line k) e r = absurd (other cc)
  rest_follow (roster_line n t faulty) e r = r
  rest_follow (act_line a) e r = r
  rest_follow settle_line e r = r

  pub follow_rest : (l : Line) → command_of l ≡ c → Follow ws (numbers_of l) → Rest ws l
  follow_rest (carrier_line k) e r = absurd (other cc)
  follow_rest (roster_line n t faulty) e r = r
  follow_rest (act_line a) e r = r
  follow_rest settle_line e r = r

  pub counted_rest : (ns : List ℕ) (o : Option Line) → Follow ws ns → MatchOption o ((l : Line) → (c ≡ carrier → ⊥) → command_of l ≡ c → numbers_of l ≡ ns → ⊥) (λ l. (command_of l ≡ c) × (numbers_of l ≡ ns)) → MatchOption o ((l : Line) → command_of l ≡ c → Rest ws l → ⊥) (λ l. (command_of l ≡ c) × Rest ws l)
  counted_rest ns None f none = λ l e r. none l other e (follow_one ws (numbers_of l) ns (rest_follow l e r) f)
  counted_rest ns (Some l) f (e, same) = (e, follow_rest l e (subst (Follow ws) (sym same) f))
