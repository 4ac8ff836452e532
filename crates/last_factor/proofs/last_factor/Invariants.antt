use Rattle.series.specs.Series.{series}
use Rattle.store.specs.Good.{rule_of}
use Rattle.last_factor.specs.Kept.{word_in}
use Rattle.last_factor.proofs.Walking.{Turn}
use Rattle.last_factor.proofs.last_factor.Given as goal

abbrev pub invariant-loop-row : goal.invariant-loop-row
invariant-loop-row l = Turn l.b l.i l.memos l.row l.start l.turns

-- it turns once for each series
abbrev pub decreases-loop-row : goal.decreases-loop-row
decreases-loop-row l = series (rule_of l.b) (word_in l.b l.row)
