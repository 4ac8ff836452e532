use Rattle.audit_rows.proofs.Passed.{passed-first, passed-next}
use Rattle.audit_rows.proofs.rows_right.Goals as goal

pub loop-r-init : goal.loop-r-init
loop-r-init c = passed-first c.edges_of.result c.edges_of-2.result c.edges_of.ensures c.edges_of-2.ensures

pub loop-r-preserved : goal.loop-r-preserved
loop-r-preserved c = passed-next c.loop-r.invariant c.if-not-row_right.ensures c.edges_of-edges.ensures c.says-said.ensures
