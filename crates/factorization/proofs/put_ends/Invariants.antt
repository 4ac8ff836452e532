use Rattle.factorization.proofs.Tracing.{Traced}
use Rattle.factorization.proofs.put_ends.Given as goal

abbrev pub invariant-loop-end : goal.invariant-loop-end
invariant-loop-end l = Traced l.b l.lasts l.initial.out l.out l.at l.end

abbrev pub decreases-loop-end : goal.decreases-loop-end
decreases-loop-end l = l.end
