-- The verdict on spelling a row.
use Rattle.std.proofs.Common.{refl, sym, ◌∙◌, arith}
use Rattle.outcome.specs.Verdict.{damaged, judged}
use Rattle.outcome.proofs.Refusals.{spell-free, spell-short, spell-accepted}
use Rattle.audit_fixed.proofs.Decided.{holds, fails}
use Rattle.spell_call.proofs.judge_spell.Goals as goal

pub returns-then-not-is_good : goal.returns-then-not-is_good
returns-then-not-is_good c = damaged (fails _ c.is_good.result c.is_good.ensures c.if-not-is_good.true) refl

pub is_used-requires : goal.is_used-requires
is_used-requires c = holds _ c.is_good.result c.is_good.ensures c.if-not-is_good.false

pub returns-then-not-is_used : goal.returns-then-not-is_used
returns-then-not-is_used c =
    judged (holds _ c.is_good.result c.is_good.ensures c.if-not-is_good.false)
    (sym (spell-free _ _ _ (sym c.is_used.ensures ∙ c.if-not-is_used.true)))

pub spelling_length-requires : goal.spelling_length-requires
spelling_length-requires c =
    record { good = holds _ c.is_good.result c.is_good.ensures c.if-not-is_good.false; r_value = sym c.is_used.ensures ∙ c.if-not-is_used.false }

pub returns-then-out-spelling_length : goal.returns-then-out-spelling_length
returns-then-out-spelling_length c =
    judged (holds _ c.is_good.result c.is_good.ensures c.if-not-is_good.false)
    (sym (spell-short _ _ _ (sym c.is_used.ensures ∙ c.if-not-is_used.false) (omega (arith, c.spelling_length.ensures, c.if-out-spelling_length.true))))

pub returns : goal.returns
returns c =
    judged (holds _ c.is_good.result c.is_good.ensures c.if-not-is_good.false)
    (sym (spell-accepted _ _ _ (sym c.is_used.ensures ∙ c.if-not-is_used.false) (omega (arith, c.spelling_length.ensures, c.if-out-spelling_length.false))))
