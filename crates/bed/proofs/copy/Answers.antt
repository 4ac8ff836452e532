-- `bed::copy` overwrites the part of the buffer that is as long as the word.
use Rattle.std.proofs.Common.{arith}
use Rattle.bed.proofs.Written.{sets-part}
use Rattle.bed.proofs.copy.Goals as goal

pub returns-clause-written : goal.returns-clause-written
returns-clause-written c =
    rw (c.copy_from_slice.ensures.after) (sets-part c.args.out.now c.args.at _ c.args.word.now c.requires (omega arith))
