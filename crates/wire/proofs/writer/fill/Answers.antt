use Rattle.std.proofs.Common.{◌∷◌, ◌++◌, drop, ap}
use Rattle.wire.specs.Letters.{bytes_of}
use Rattle.wire.proofs.Chunks.{put_front}
use Rattle.wire.proofs.Codes.{bytes_of_swapped}
use Rattle.wire.proofs.writer.fill.Goals as goal

pub returns : goal.returns
unfolding bytes_of
returns c =
    let l = c.args.letter in
    let xs = c.args.buffer.now in
    rw (put_front xs c.requires.room _ _ _ _ _ _ _ _ _ _ _ _ _ _ _ _)
    (ap (λ code. 1 ∷ 0 ∷ 1 ∷ l.kind ∷ 2 ∷ 0 ∷ 1 ∷ l.origin ∷ 3 ∷ 0 ∷ 1 ∷ l.slot ∷ 4 ∷ 0 ∷ 8 ∷ (code ++ drop 23 xs))
    (bytes_of_swapped l.code c.swap_bytes.result c.swap_bytes.ensures))
