use Rattle.std.proofs.Common.{◌≡◌, ℕ, List, ◌++◌, codes, decimal, sym, ap, ◌∙◌}
use Rattle.std.proofs.Output.{has_written_of_eq}
use Rattle.roster.specs.Denials.{number_of, words_of, text_of}
use Rattle.roster.specs.declared.denial.Denial.{Denial}
use Rattle.roster.specs.declared.denial.Denial.TheVariants.{NoLetter}
use Rattle.roster.proofs.denial.DenialDisplay.fmt.Goals as goal

spelt : (d : Denial) (place number : ℕ) (words : List ℕ) → d ≡ NoLetter place → number ≡ number_of d → words ≡ words_of d → codes "denied " ++ (decimal number ++ (codes " at " ++ (decimal place ++ (codes ": " ++ words)))) ≡ text_of d
spelt d place number words is n w =
    ap (λ x. codes "denied " ++ (decimal x ++ (codes " at " ++ (decimal place ++ (codes ": " ++ words))))) (n ∙ ap number_of is)
    ∙ ap (λ x. codes "denied " ++ (decimal 12 ++ (codes " at " ++ (decimal place ++ (codes ": " ++ x))))) (w ∙ ap words_of is)
    ∙ ap text_of (sym is)

pub returns-in-NoLetter-clause-writes : goal.returns-in-NoLetter-clause-writes
returns-in-NoLetter-clause-writes g c = λ plain ok.
    has_written_of_eq _ _ _ _ _ (spelt _ _ _ _ c.in-NoLetter.is c.number-number.ensures c.words-words.ensures)
    (c.write.ensures.writes plain ok)
