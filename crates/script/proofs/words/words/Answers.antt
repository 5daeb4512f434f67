use Rattle.std.proofs.Common.{◌≡◌, ℕ, List, [], ◌∷◌, map, Bor, rules}
use Rattle.std.specs.declared.str.SplitWhitespace.{SplitWhitespace}
use Rattle.std.specs.Iterator.{Yields, DrainsIf}
use Rattle.std.specs.Str.Iter.{split_whitespace_rest, split_whitespace_steps}
use Rattle.std.specs.Char.{is_not_whitespace}
use Rattle.std.specs.Str.{NoCharPasses}
use Rattle.script.specs.Words.{AreWords}
use Rattle.script.proofs.Cuts.{one_way}
use Rattle.script.proofs.words.words.Goals as goal

-- what `split_whitespace` gave on the way from s to t, where no word is left
drained : (s t : SplitWhitespace) (xs : List (Bor (List ℕ))) → Yields split_whitespace_steps s xs t → NoCharPasses is_not_whitespace (split_whitespace_rest t) → AreWords (split_whitespace_rest s) (map (λ x. x.now) xs)
drained s t [] e none = rw e none
drained s t (x ∷ xs) run none =
    let cut = run.1 in (
      split_whitespace_rest run.0,
      record { gap = cut.0; cut = cut.1; some = cut.2; blank = cut.3; solid = cut.4; ends = cut.5 },
      drained run.0 t xs run.2 none,
    )

-- what it gave from the text on, to its end
collected : (s : SplitWhitespace) (xs items : List (Bor (List ℕ))) (text : List ℕ) → DrainsIf split_whitespace_steps (Unit {0}) s xs → items ≡ xs → split_whitespace_rest s ≡ text → AreWords text (map (λ x. x.now) items)
collected s xs items text ran is all = rw (is, ← all) (drained s ran.0 xs ran.1 (ran.2 tt).1.1)

pub returns-clause-made : goal.returns-clause-made
returns-clause-made c = search (rules, collected c.split_whitespace.result c.in_ok-words.ensures.ran.0)

pub returns-clause-only : goal.returns-clause-only
returns-clause-only c = let made = returns-clause-made c in search (one_way, made)
