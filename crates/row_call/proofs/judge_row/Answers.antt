-- The verdict on asking a row.
use Rattle.std.proofs.Common.{sym, ◌∙◌}
use Rattle.row_call.proofs.Asking.{used, unused}
use Rattle.row_call.proofs.judge_row.Goals as goal

pub returns-then-not-is_used : goal.returns-then-not-is_used
returns-then-not-is_used c = unused _ c.if-not-is_good.ensures _ (sym c.is_used.ensures ∙ c.if-not-is_used.true)

pub returns : goal.returns
returns c = used _ c.if-not-is_good.ensures _ (sym c.is_used.ensures ∙ c.if-not-is_used.false)
