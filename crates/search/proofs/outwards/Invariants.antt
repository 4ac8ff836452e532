-- The row is that of the node reached by the letters from the middle on.
use Rattle.std.proofs.Common.{◌+◌, ◌/◌, length}
use Rattle.search.proofs.Finding.{Along}
use Rattle.search.proofs.outwards.Given as goal

abbrev pub invariant-loop-c : goal.invariant-loop-c
invariant-loop-c l = Along l.b l.piece (length l.piece / 2 + l.c-index) l.row
