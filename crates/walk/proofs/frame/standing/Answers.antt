use Rattle.std.proofs.Common.{sym}
use Rattle.palindromes.specs.Palindrome.{plain}
use Rattle.store.specs.Writes.{towards}
use Rattle.store.proofs.Ends.{part_at, part-seen}
use Rattle.walk.proofs.frame.standing.Goals as goal

pub returns-in-Right : goal.returns-in-Right
unfolding towards
returns-in-Right c = rw c.in-Right.is (sym (part_at c.args.b.now c.args.f.base c.args.f.n c.requires.0 c.args.i c.requires.1))

pub returns-in-Left : goal.returns-in-Left
unfolding towards
returns-in-Left c = rw c.in-Left.is (sym (part-seen c.args.b.now c.args.f.base c.args.f.n c.requires.0 plain c.args.i c.requires.1))
