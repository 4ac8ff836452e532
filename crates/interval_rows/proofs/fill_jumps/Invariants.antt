use Rattle.std.proofs.Common.{◌≡◌, length}
use Rattle.interval_rows.specs.IntervalRow.{Jumps}
use Rattle.interval_rows.proofs.fill_jumps.Given as goal

-- whatever is set lies below its row
abbrev pub invariant-loop-end : goal.invariant-loop-end
invariant-loop-end l = record { set : Jumps l.b l.jumps; deep : length l.depths ≡ 1026 }
