-- The verdict on asking how often a row's repeat stands.
use Rattle.std.proofs.Common.{sym, ◌∙◌, arith}
use Rattle.frequency_calls.proofs.Asking.{root, used, unused}
use Rattle.frequency_calls.proofs.judge_frequency.Goals.{then-row-le-EMPTY-via-then-row-le-EMPTY, then-row-le-EMPTY-via-else-row-le-EMPTY+then-not-is_used}
use Rattle.frequency_calls.proofs.judge_frequency.Goals as goal

-- a root, or a row that is not in use
pub returns-then-row-le-EMPTY : goal.returns-then-row-le-EMPTY
returns-then-row-le-EMPTY c =
    elim c.then-row-le-EMPTY.branch [
      | then-row-le-EMPTY-via-then-row-le-EMPTY w ↦ root _ c.if-not-is_good.ensures _ (omega (arith, w.if-row-le-EMPTY.true))
      | then-row-le-EMPTY-via-else-row-le-EMPTY+then-not-is_used w ↦
          unused _ c.if-not-is_good.ensures _ (omega (arith, w.if-row-le-EMPTY.false)) (sym w.is_used.ensures ∙ w.if-not-is_used.true)
    ]

pub returns : goal.returns
returns c = used _ c.if-not-is_good.ensures _ (omega (arith, c.if-row-le-EMPTY.false)) (sym c.is_used.ensures ∙ c.if-not-is_used.false)
