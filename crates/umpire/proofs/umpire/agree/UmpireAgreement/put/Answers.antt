use Rattle.std.proofs.Common.{true}
use Rattle.umpire.proofs.Effects.{note_keeps}
use Rattle.umpire.proofs.umpire.agree.UmpireAgreement.put.Goals as goal

pub returns-clause-keeps : goal.returns-clause-keeps
returns-clause-keeps c =
    note_keeps _ _ true _ _ _ c.note.ensures.value c.note.ensures.same c.note.ensures.after
