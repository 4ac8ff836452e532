-- The number of repeats is told of a good store.
use Rattle.std.proofs.Common.{ℕ, false, ap, ◌∙◌, arith}
use Rattle.outcome.specs.Reply.{packed, accepted}
use Rattle.record_calls.proofs.Asking.{damaged-refused, count-few, count-answered}
use Rattle.record_calls.proofs.count.Goals as goal

pub returns-then-not-is_good : goal.returns-then-not-is_good
returns-then-not-is_good c = damaged-refused _ _ c.if-not-is_good.ensures c.refuse.ensures

pub pack-requires : goal.pack-requires
pack-requires c = omega (arith, count-few _ c.if-not-is_good.ensures, c.count.ensures)

pub returns : goal.returns
returns c = count-answered _ c.if-not-is_good.ensures (c.pack.ensures ∙ ap (λ (n : ℕ). packed (accepted false 0 n 0)) c.count.ensures)
