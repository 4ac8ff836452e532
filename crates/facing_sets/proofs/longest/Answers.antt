use Rattle.std.proofs.Common.{arith}
use Rattle.facing_sets.proofs.Search.{turned}
use Rattle.facing_sets.proofs.longest.Goals as goal

pub loop-best-preserved : goal.loop-best-preserved
loop-best-preserved c =
    let at = c.loop-best in
    let passed =
    turned _ _ c.requires.0 at.t _ _ at.best _ _ (omega arith) (omega arith) (omega arith)
    (at.invariant.some_passed, at.invariant.every_passed) c.at_centre-best.ensures c.at_centre-best-in-loop-best.ensures
    in
    record { inside = omega arith; reached = c.at_centre-best-in-loop-best.ensures.best; some_passed = passed.0; every_passed = passed.1 }
