use Rattle.base_sets.proofs.Letters.{letter-set, no-letter-set}
use Rattle.base_sets.proofs.set_of.Goals as goal

pub returns-then-c-eq1 : goal.returns-then-c-eq1
returns-then-c-eq1 c = cc (c.requires, c.from.ensures, letter-set c.args.c c.ranges.c.fits c.if-c-eq1.true)

pub returns-else-c-eq1 : goal.returns-else-c-eq1
returns-else-c-eq1 c = no-letter-set c.args.c c.ranges.c.fits c.if-c-eq1.false
