-- The outer letter of a row is a byte.
use Rattle.std.proofs.Common.{arith}
use Rattle.transitions.proofs.Rows.{used-fits}
use Rattle.spelling.proofs.Spellings.{outer-byte}
use Rattle.spelling.proofs.last_letter.Goals as goal

pub outer_of-requires : goal.outer_of-requires
outer_of-requires c = used-fits c.requires.good c.args.r c.requires.r_value.0

pub overflow_cast-result : goal.overflow_cast-result
overflow_cast-result c = omega (arith, c.outer_of.ensures.0, outer-byte c.requires.good c.args.r c.requires.r_value.0 c.requires.r_value.1)
