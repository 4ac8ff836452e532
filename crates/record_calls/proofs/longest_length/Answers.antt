-- The length of the longest is told of a good store.
use Rattle.std.proofs.Common.{ℕ, false, ap, ◌∙◌}
use Rattle.walk.proofs.Stores.{header-fits}
use Rattle.outcome.specs.Reply.{packed, accepted}
use Rattle.record_calls.proofs.Asking.{damaged-refused, longest-length-answered}
use Rattle.record_calls.proofs.longest_length.Goals as goal

pub returns-then-not-is_good : goal.returns-then-not-is_good
returns-then-not-is_good c = damaged-refused _ _ c.if-not-is_good.ensures c.refuse.ensures

pub longest-requires : goal.longest-requires
longest-requires c = header-fits c.if-not-is_good.ensures.sized

pub returns : goal.returns
returns c = longest-length-answered _ c.if-not-is_good.ensures (c.pack.ensures ∙ ap (λ (n : ℕ). packed (accepted false 0 n 0)) c.longest.ensures.0)
