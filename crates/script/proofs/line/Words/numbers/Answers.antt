use Rattle.std.proofs.Common.{◌≡◌, [], ◌∷◌, ◌++◌, length, Some, None, vec_items, sym, ap, subst, rules, arith}
use Rattle.std.proofs.lemmas.List.{length_push}
use Rattle.script.specs.Numbers.{Number}
use Rattle.script.proofs.Follows.{Sofar, follow_more, no_follow, many_rest, word_here}
use Rattle.script.proofs.line.Words.numbers.Goals as goal

pub returns-in_default : goal.returns-in_default
returns-in_default c = λ ns.
    let many = many_rest c.args.self.now _ c.rest-word-items.ensures in
    let here = word_here c.args.self.now _ c.rest-word-items.ensures c.loop-word.word-index (search rules) _ in
    no_follow _ ns _ (omega arith) (subst (λ w. Number w None) here c.in_default.ensures.value)

pub loop-word-preserved : goal.loop-word-preserved
loop-word-preserved c =
    let pushed : vec_items c.push.new.self ≡ vec_items c.loop-word.all ++ (c.in-Some.n ∷ []) = search rules in
    let here = word_here c.args.self.now _ c.rest-word-items.ensures c.loop-word.word-index (search rules) _ in
    let new = subst (λ w. Number w (Some c.in-Some.n)) here c.in-Some.ensures.value in (
      omega (arith, ap length pushed, length_push (vec_items c.loop-word.all) c.in-Some.n, c.loop-word.invariant.0),
      subst (Sofar c.args.self.now) (sym pushed) (follow_more _ _ _ c.loop-word.invariant.1 (rw c.loop-word.invariant.0 new)),
    )
