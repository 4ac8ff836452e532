-- A damaged store and an inverted record are refused.
use Rattle.std.proofs.Common.{◌≡◌, sym, refl, arith}
use Rattle.store.specs.Layout.{reading_in}
use Rattle.walk.proofs.Stores.{header-fits}
use Rattle.outcome.specs.Verdict.{damaged, judged}
use Rattle.outcome.proofs.Refusals.{pieces-inverted}
use Rattle.outcome.proofs.Promises.{by-verdict}
use Rattle.audit_fixed.proofs.Decided.{holds, fails}
use Rattle.pieces_call.proofs.list_pieces.Goals as goal

pub returns-then-not-is_good : goal.returns-then-not-is_good
returns-then-not-is_good c =
    by-verdict _ _ _ 3 (damaged (fails _ c.is_good.result c.is_good.ensures c.if-not-is_good.true) refl) (omega arith) c.refuse.ensures

pub reading-requires : goal.reading-requires
reading-requires c = header-fits (holds _ c.is_good.result c.is_good.ensures c.if-not-is_good.false).sized

pub returns-then-reading-ne0 : goal.returns-then-reading-ne0
returns-then-reading-ne0 c =
    let good = holds _ c.is_good.result c.is_good.ensures c.if-not-is_good.false in
    let inverted : reading_in c.args.store.now ≡ 1 = omega (arith, good.reading) in
    by-verdict _ _ _ 14 (judged good (sym (pieces-inverted _ _ inverted))) (omega arith) c.refuse-then-reading-ne0.ensures

pub cut_of_good-requires : goal.cut_of_good-requires
cut_of_good-requires c = (holds _ c.is_good.result c.is_good.ensures c.if-not-is_good.false, omega arith)
