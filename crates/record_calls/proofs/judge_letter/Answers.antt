-- The verdict on asking a letter.
use Rattle.std.proofs.Common.{arith}
use Rattle.record_calls.proofs.Asking.{outside, inside}
use Rattle.record_calls.proofs.judge_letter.Goals as goal

pub returns-then-length-place : goal.returns-then-length-place
returns-then-length-place c = outside _ c.if-not-is_good.ensures _ (omega (arith, c.length.ensures))

pub returns : goal.returns
returns c = inside _ c.if-not-is_good.ensures _ (omega (arith, c.length.ensures))
