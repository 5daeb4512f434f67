use Rattle.std.proofs.Common.{true}
use Rattle.board.proofs.Effects.{write_keeps}
use Rattle.board.proofs.board.carry.BoardCarrier.put.Goals as goal

pub returns-clause-keeps : goal.returns-clause-keeps
returns-clause-keeps c =
    write_keeps _ _ true _ _ _ _ c.write.ensures.value c.write.ensures.after c.write.ensures.same
