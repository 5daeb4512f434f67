use Rattle.std.proofs.Common.{◌≡◌, sym, subst, rules}
use Rattle.script.specs.Numbers.{Follow}
use Rattle.std.proofs.lemmas.Option.{MatchOption-at_some, MatchOption-at_none}
use Rattle.scenario.specs.declared.command.Command.TheVariants.{Carrier as carrier}
use Rattle.scenario.proofs.Shapes.{rest_follow, counted_rest}
use Rattle.scenario.proofs.parse.rest.Goals as goal

pub returns-in_default : goal.returns-in_default
returns-in_default c =
    let other : c.args.command ≡ carrier → ⊥ = search rules in
    λ l e r. MatchOption-at_none _ _ c.in_default.is c.in_ok-numbers.ensures _ (rest_follow _ c.args.command other l e r)

pub returns : goal.returns
returns c =
    let other : c.args.command ≡ carrier → ⊥ = search rules in
    let follow = MatchOption-at_some _ _ c.in-Some.numbers c.in-Some.is c.in_ok-numbers.ensures in
    counted_rest _ c.args.command other c.as_slice.result.now c.counted.result (subst (Follow _) (sym c.as_slice.ensures.value) follow) c.counted.ensures
