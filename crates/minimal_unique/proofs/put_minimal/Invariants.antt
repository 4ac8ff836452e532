use Rattle.minimal_unique.proofs.Written.{Written}
use Rattle.minimal_unique.proofs.put_minimal.Given as goal

abbrev pub invariant-loop-k : goal.invariant-loop-k
invariant-loop-k l = Written l.b l.initial.out l.k l.out l.at
