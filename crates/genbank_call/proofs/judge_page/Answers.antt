-- The verdict on printing the record.
use Rattle.std.proofs.Common.{refl, sym, arith}
use Rattle.outcome.specs.Verdict.{damaged}
use Rattle.outcome.proofs.Fits.{few}
use Rattle.audit_fixed.proofs.Decided.{holds, fails}
use Rattle.genbank_call.proofs.Printing.{no_room, can-print}
use Rattle.genbank_call.proofs.judge_page.Goals as goal

pub returns-then-not-is_good : goal.returns-then-not-is_good
returns-then-not-is_good c = damaged (fails _ c.is_good.result c.is_good.ensures c.if-not-is_good.true) refl

pub length-requires : goal.length-requires
length-requires c = holds _ c.is_good.result c.is_good.ensures c.if-not-is_good.false

pub page_length-requires : goal.page_length-requires
page_length-requires c = omega (arith, c.length.ensures, few (holds _ c.is_good.result c.is_good.ensures c.if-not-is_good.false))

pub returns-then-out-page_length : goal.returns-then-out-page_length
returns-then-out-page_length c =
    let size = c.page_length.ensures _ (sym c.length.ensures) in
    no_room _ (holds _ c.is_good.result c.is_good.ensures c.if-not-is_good.false) _ size c.if-out-page_length.true

pub returns : goal.returns
returns c =
    let size = c.page_length.ensures _ (sym c.length.ensures) in
    can-print _ (holds _ c.is_good.result c.is_good.ensures c.if-not-is_good.false) _ size c.if-out-page_length.false
