use Rattle.std.proofs.Common.{◌≡◌, true, Ok, sym, refl, ap, ◌∙◌, subst, rules}
use Rattle.std.proofs.lemmas.Bool.{true≢false, both_ways}
use Rattle.carrier.specs.Views.{Moved}
use Rattle.broadcast.specs.Meanings.{meaning}
use Rattle.broadcast.specs.Moves.{due}
use Rattle.broadcast.specs.Rows.{fits}
use Rattle.broadcast.specs.Rules.{counted}
use Rattle.broadcast.proofs.Effects.{move_effect, move_keeps}
use Rattle.broadcast.proofs.Laws as laws
use Rattle.broadcast.proofs.Moves.{due_why}
use Rattle.letters.specs.Steps.{after_move, move_answer}
use Rattle.letters.proofs.Written.{written}
use Rattle.letters.proofs.letters.carry.LettersCarrier.step.Goals as goal

pub place_of-i-requires : goal.place_of-i-requires
place_of-i-requires c =
    let rows = c.in_ok-rows.rows in
    (due_why rows.roster rows.cells.now c.args.by c.in_ok-letter.letter (sym c.letter_due.ensures ∙ c.in_ok-letter.was)).inside

pub returns : goal.returns
returns c =
    let s = c.args.self.now in
    let by = c.args.by in
    let l = c.in_ok-letter.letter in
    let granted : due s.roster s.cells.now by ≡ Ok l = search rules in
    let why = due_why s.roster s.cells.now by l granted in
    let cells = written s.roster.size.n s.cells.now by.to by.origin by.slot _ (counted s.roster.size.n s.roster.size.t l) _ why.inside (search rules) (search rules) in
    let moved = cells ∙ ap (after_move s by) (sym granted) in
    record {
      matched = λ e. absurd (both_ways (fits s.roster.size.n s.cells.now) e why.fit);
      same = λ e. absurd (true≢false e);
      after = λ _. subst (λ ds. Moved (meaning s.roster s.cells.now s.touched) (meaning s.roster ds true)) (sym cells) (move_effect s.roster s.cells.now s.touched by l granted);
      keeps = λ ok. subst (laws.Invariant s.roster) (sym cells) (move_keeps s.roster s.cells.now s.touched by l granted ok);
      steps = record { value = ap move_answer (sym granted); cells = moved; same_list = refl };
      value = ap move_answer (sym granted);
      cells = moved;
      name = refl;
    }
