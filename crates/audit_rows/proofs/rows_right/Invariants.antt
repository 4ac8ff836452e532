use Rattle.audit_rows.proofs.Passed.{Passed}
use Rattle.audit_rows.proofs.rows_right.Given as goal

abbrev pub invariant-loop-r : goal.invariant-loop-r
invariant-loop-r l = Passed l.b l.carried l.edges l.said l.r
