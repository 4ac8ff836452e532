-- A damaged store is refused.
use Rattle.std.proofs.Common.{refl, arith}
use Rattle.outcome.specs.Verdict.{damaged}
use Rattle.outcome.proofs.Promises.{by-verdict}
use Rattle.audit_fixed.proofs.Decided.{holds, fails}
use Rattle.minimal_unique_call.proofs.list_minimal_unique.Goals as goal

pub returns-then-not-is_good : goal.returns-then-not-is_good
returns-then-not-is_good c =
    by-verdict _ _ _ 3 (damaged (fails _ c.is_good.result c.is_good.ensures c.if-not-is_good.true) refl) (omega arith) c.refuse.ensures

pub list_of_good-requires : goal.list_of_good-requires
list_of_good-requires c = holds _ c.is_good.result c.is_good.ensures c.if-not-is_good.false
