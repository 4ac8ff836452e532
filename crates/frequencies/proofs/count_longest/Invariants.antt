use Rattle.frequencies.proofs.Counting.{Counting}
use Rattle.frequencies.proofs.count_longest.Given as goal

-- of the right ends of the record
abbrev pub invariant-loop-end : goal.invariant-loop-end
invariant-loop-end l = Counting l.b l.initial.end-items l.end-index l.end-items l.counts
