use Rattle.facing_sets.specs.Search.{Radius}
use Rattle.facing_sets.proofs.maximal_radius.Given as goal

abbrev pub invariant-loop-k : goal.invariant-loop-k
invariant-loop-k l = Radius l.sets l.left l.right l.k
