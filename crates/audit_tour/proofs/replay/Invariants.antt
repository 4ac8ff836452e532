use Rattle.audit_tour.specs.Tour.{read_in, Toured}
use Rattle.audit_tour.proofs.replay.Given as goal

-- the tour stands as it must once k letters are read
abbrev pub invariant-loop-k : goal.invariant-loop-k
invariant-loop-k l = Toured l.b l.marks l.carried (read_in l.b l.k) l.tour
