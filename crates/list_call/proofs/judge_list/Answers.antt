-- The verdict on listing the repeats.
use Rattle.std.proofs.Common.{refl, sym, ◌∙◌}
use Rattle.outcome.specs.Verdict.{damaged}
use Rattle.audit_fixed.proofs.Decided.{holds, fails}
use Rattle.list_call.proofs.Listing.{bad-name, scratch-short, out-short, can-list}
use Rattle.list_call.proofs.judge_list.Goals as goal

pub returns-then-not-is_good : goal.returns-then-not-is_good
returns-then-not-is_good c = damaged (fails _ c.is_good.result c.is_good.ensures c.if-not-is_good.true) refl

pub returns-then-not-is_identifier : goal.returns-then-not-is_identifier
returns-then-not-is_identifier c =
    bad-name _ (holds _ c.is_good.result c.is_good.ensures c.if-not-is_good.false) _ _ _ (sym c.is_identifier.ensures ∙ c.if-not-is_identifier.true)

pub scratch_size-requires : goal.scratch_size-requires
scratch_size-requires c = holds _ c.is_good.result c.is_good.ensures c.if-not-is_good.false

pub returns-then-scratch-scratch_size : goal.returns-then-scratch-scratch_size
returns-then-scratch-scratch_size c =
    scratch-short _ (holds _ c.is_good.result c.is_good.ensures c.if-not-is_good.false) _ _ _
    (sym c.is_identifier.ensures ∙ c.if-not-is_identifier.false) c.scratch_size.ensures c.if-scratch-scratch_size.true

pub listing_length-requires : goal.listing_length-requires
listing_length-requires c =
    record {
      good = holds _ c.is_good.result c.is_good.ensures c.if-not-is_good.false;
      name_value = sym c.is_identifier.ensures ∙ c.if-not-is_identifier.false;
    }

pub returns-then-out-listing_length : goal.returns-then-out-listing_length
returns-then-out-listing_length c =
    out-short _ (holds _ c.is_good.result c.is_good.ensures c.if-not-is_good.false) _ _ _
    (sym c.is_identifier.ensures ∙ c.if-not-is_identifier.false) c.scratch_size.ensures c.if-scratch-scratch_size.false
    c.listing_length.ensures c.if-out-listing_length.true

pub returns : goal.returns
returns c =
    can-list _ (holds _ c.is_good.result c.is_good.ensures c.if-not-is_good.false) _ _ _
    (sym c.is_identifier.ensures ∙ c.if-not-is_identifier.false) c.scratch_size.ensures c.if-scratch-scratch_size.false
    c.listing_length.ensures c.if-out-listing_length.false
