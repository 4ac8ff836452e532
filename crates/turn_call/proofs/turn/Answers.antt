-- A good store is turned, and one that is not good is refused.
use Rattle.std.proofs.Common.{refl}
use Rattle.refusal.specs.declared.Refusal.TheVariants.{Damaged}
use Rattle.outcome.specs.Verdict.{damaged}
use Rattle.outcome.proofs.Promises.{by-refusal}
use Rattle.turn_call.proofs.Turns.{turned-to}
use Rattle.turn_call.proofs.turn.Goals as goal

pub returns-then-not-is_good : goal.returns-then-not-is_good
returns-then-not-is_good c = by-refusal _ _ _ Damaged (damaged c.if-not-is_good.ensures refl) c.refuse.ensures

pub returns : goal.returns
returns c = turned-to _ _ c.if-not-is_good.ensures c.pack.ensures c.turn.ensures
