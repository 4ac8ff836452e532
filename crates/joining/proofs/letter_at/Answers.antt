-- The letter at a side is that of the letters seen from its end.
use Rattle.std.proofs.Common.{sym}
use Rattle.palindromes.specs.End.{at_left, at_right}
use Rattle.store.proofs.Ends.{part-letter}
use Rattle.joining.proofs.letter_at.Goals as goal

pub returns-in-Left : goal.returns-in-Left
returns-in-Left c =
    let a = c.args in
    rw c.in-Left.is (sym (part-letter a.b.now a.base a.n c.requires.0 at_left c.requires.1))

pub returns-in-Right : goal.returns-in-Right
returns-in-Right c =
    let a = c.args in
    rw c.in-Right.is (sym (part-letter a.b.now a.base a.n c.requires.0 at_right c.requires.1))
