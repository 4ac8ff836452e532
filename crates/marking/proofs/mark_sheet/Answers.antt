-- An empty sheet has no line, so that each palindrome is missing.
use Rattle.std.proofs.Common.{arith}
use borrow.Author.Tests.{true-eqb}
use Rattle.walk.proofs.Stores.{header-fits}
use Rattle.marking.proofs.Counting.{none-counted}
use Rattle.marking.proofs.mark_sheet.Goals as goal

pub count-requires : goal.count-requires
count-requires c = header-fits c.requires.sized

pub returns-then-is_empty : goal.returns-then-is_empty
returns-then-is_empty c = none-counted c.requires _ _ (omega (arith, true-eqb _ 0 c.if-is_empty.ensures)) c.count.ensures.0
