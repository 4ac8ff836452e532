-- The first k rows are listed.
use Rattle.std.proofs.Common.{◌≡◌}
use Rattle.store.specs.Writes.{writes}
use Rattle.transitions.specs.Opening.{order_writes}
use Rattle.opening.proofs.number.Given as goal

abbrev pub invariant-loop-k : goal.invariant-loop-k
invariant-loop-k l = l.b ≡ writes l.initial.b (order_writes l.k)
