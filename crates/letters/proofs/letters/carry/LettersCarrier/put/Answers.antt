use Rattle.std.proofs.Common.{◌≡◌, true, None, sym, refl, subst, rules}
use Rattle.std.proofs.lemmas.Bool.{true≢false}
use Rattle.carrier.specs.Views.{Put}
use Rattle.broadcast.specs.Cells.{with_put}
use Rattle.broadcast.specs.Meanings.{meaning}
use Rattle.broadcast.specs.Rows.{fits, within, row}
use Rattle.broadcast.proofs.Effects.{put_effect, put_keeps}
use Rattle.broadcast.proofs.Laws as laws
use Rattle.broadcast.proofs.Rows.{row_at}
use Rattle.letters.proofs.Written.{written}
use Rattle.letters.proofs.letters.carry.LettersCarrier.put.Goals as goal

pub returns : goal.returns
returns c =
    let s = c.args.self.now in
    let n = s.roster.size.n in
    let seat = c.args.seat in
    let slot = c.args.slot in
    let fit : fits n s.cells.now ≡ true = search rules in
    let inside : within n seat seat slot ≡ true = search rules in
    let at = row_at n s.cells.now seat slot seat inside in
    let fresh : (row n s.cells.now seat slot seat).put ≡ None = search rules in
    let cells = written n s.cells.now seat seat slot _ (λ d. with_put d c.args.code) _ inside (search rules) c.send_init.ensures in
    record {
      value = search rules;
      same = λ e. absurd (true≢false e);
      after = λ _. subst (λ ds. Put (meaning s.roster s.cells.now s.touched) seat slot c.args.code (meaning s.roster ds true)) (sym cells)
          (put_effect s.roster s.cells.now s.touched seat slot c.args.code inside fit);
      keeps = λ ok. subst (laws.Invariant s.roster) (sym cells) (put_keeps s.roster s.cells.now s.touched seat slot c.args.code inside fit fresh ok);
      cells = λ _. cells;
      name = refl;
    }
