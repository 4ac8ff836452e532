use Rattle.std.proofs.Common.{◌-◌, ◌≤◌}
use Rattle.facing_sets.specs.Search.{Best}
use Rattle.facing_sets.proofs.Search.{Passed}
use Rattle.facing_sets.proofs.longest.Given as goal

abbrev pub invariant-loop-best : goal.invariant-loop-best
invariant-loop-best l =
    record {
      inside : l.t ≤ l.n;
      reached : Best l.sets l.certain l.best;
      some_passed : Passed l.sets l.t l.best.some;
      every_passed : Passed l.certain l.t l.best.every;
    }

abbrev pub decreases-loop-best : goal.decreases-loop-best
decreases-loop-best l = l.n - l.t
