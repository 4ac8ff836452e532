-- The verdict on finding a piece.
use Rattle.std.proofs.Common.{refl, sym, ◌∙◌}
use Rattle.outcome.specs.Verdict.{damaged}
use Rattle.audit_fixed.proofs.Decided.{holds, fails}
use Rattle.find_call.proofs.Finding.{no-piece, no_text, can-find}
use Rattle.find_call.proofs.judge_find.Goals as goal

pub returns-then-not-is_good : goal.returns-then-not-is_good
returns-then-not-is_good c = damaged (fails _ c.is_good.result c.is_good.ensures c.if-not-is_good.true) refl

pub returns-then-piece-eq0 : goal.returns-then-piece-eq0
returns-then-piece-eq0 c = no-piece _ (holds _ c.is_good.result c.is_good.ensures c.if-not-is_good.false) _ c.if-piece-eq0.true

pub returns-then-not-all_letters : goal.returns-then-not-all_letters
returns-then-not-all_letters c =
    no_text _ (holds _ c.is_good.result c.is_good.ensures c.if-not-is_good.false) _ c.if-piece-eq0.false
    (sym c.all_letters.ensures ∙ c.if-not-all_letters.true)

pub returns : goal.returns
returns c =
    can-find _ (holds _ c.is_good.result c.is_good.ensures c.if-not-is_good.false) _ c.if-piece-eq0.false
    (sym c.all_letters.ensures ∙ c.if-not-all_letters.false)
