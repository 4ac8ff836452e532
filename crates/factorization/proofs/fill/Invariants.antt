use Rattle.factorization.proofs.Filling.{Turn}
use Rattle.factorization.proofs.fill.Given as goal

abbrev pub invariant-loop-k : goal.invariant-loop-k
invariant-loop-k l = Turn l.b l.k-end l.lasts l.factors l.memos l.k l.steps
