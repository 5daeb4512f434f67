-- What a job is answered. Assumes nothing.
use Rattle.std.specs.Prelude.{◌≡◌, ℕ, true, false, List, ◌++◌, vec_items, codes, decimal}
use Rattle.jobs.specs.declared.answer.Answer.{Answer}
use Rattle.jobs.specs.declared.answer.Answer.TheVariants.{Bytes, Numbers, Denied}
use Rattle.jobs.specs.declared.job.Job.{Job}
use Rattle.jobs.specs.declared.job.Job.TheVariants.{Write, Read}
use Rattle.roster.specs.declared.denial.Denial.TheVariants.{OutOfRange}
use Rattle.roster.specs.Denials.{text_of}
use Rattle.script.specs.Hex.{hex_of}
use Rattle.wire.specs.Fields.{Refused}
use Rattle.wire.specs.Letters.{bytes_of, proper, Proper}

-- a letter is written as its bytes and read as its numbers, or the job is denied
abbrev pub Answered : Job → Answer → Type 0
Answered (Write l) (Bytes bs) = (proper l ≡ true) × (bs ≡ bytes_of l)
Answered (Write l) (Numbers m) = ⊥
Answered (Write l) (Denied e) = (proper l ≡ false) × (e ≡ OutOfRange)
Answered (Read bs) (Bytes cs) = ⊥
Answered (Read bs) (Numbers l) = Proper l × (vec_items bs ≡ bytes_of l)
Answered (Read bs) (Denied e) = Refused (vec_items bs) e

-- an answer in words
abbrev pub said : Answer → List ℕ
said (Bytes bs) = hex_of bs
said (Numbers l) =
    codes "kind " ++ (decimal l.kind ++ (codes " origin " ++ (decimal l.origin ++ (codes " slot " ++ (decimal l.slot ++ (codes " code " ++ decimal l.code))))))
said (Denied e) = text_of e
