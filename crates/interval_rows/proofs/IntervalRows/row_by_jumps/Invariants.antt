use Rattle.std.proofs.Common.{length}
use Rattle.interval_rows.specs.IntervalRow.{word_in, word_between, Near}
use Rattle.interval_rows.proofs.IntervalRows.row_by_jumps.Given as goal

abbrev pub invariant-loop-self : goal.invariant-loop-self
invariant-loop-self l = Near l.self.store.now l.end (word_between l.self.store.now l.start l.end) l.row

abbrev pub decreases-loop-self : goal.decreases-loop-self
decreases-loop-self l = length (word_in l.self.store.now l.row)
