use Rattle.store.specs.Layout.{cell}
use Rattle.walk.specs.Frame.{seen_in, partner_in}
use Rattle.walk.proofs.Turns.{Turn}
use Rattle.walk.proofs.walk.Given as goal

-- what is left to find from the row that the walk has come to
abbrev pub invariant-loop-row : goal.invariant-loop-row
invariant-loop-row l = Turn l.b (seen_in l.b l.f l.side) l.k l.d (partner_in l.f l.d) l.start l.row l.passed

-- its stored length falls
abbrev pub decreases-loop-row : goal.decreases-loop-row
decreases-loop-row l = cell l.b l.row 0
