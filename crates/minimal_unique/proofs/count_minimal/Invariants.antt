use Rattle.std.proofs.Common.{◌≡◌, length}
use Rattle.minimal_unique.proofs.Ends.{listed_to}
use Rattle.minimal_unique.proofs.count_minimal.Given as goal

-- as many are counted as there are at the right ends passed
abbrev pub invariant-loop-first : goal.invariant-loop-first
invariant-loop-first l = l.total ≡ length (listed_to l.b l.first-index)
