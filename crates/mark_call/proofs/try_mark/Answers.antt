-- Marking is refused with the number of the first test that the call does not pass, and else the mark sheet holds the counts.
use Rattle.std.proofs.Common.{◌≡◌, refl, sym, ◌∙◌, subst, ap, None, Err}
use Rattle.std.specs.Prelude.{Option, ok_or}
use Rattle.std.proofs.lemmas.Result.{err_from_is_err_and}
use Rattle.palindromes.specs.Refusal.{mark}
use Rattle.tally.specs.declared.Tally.{Tally}
use Rattle.audit_fixed.proofs.Decided.{holds, fails}
use Rattle.refusal.specs.declared.Refusal.TheVariants.{Damaged, Identifier, NoSheet, ShortBuffer}
use Rattle.outcome.specs.Promise.{AskedInto}
use Rattle.outcome.specs.Verdict.{damaged}
use Rattle.outcome.proofs.Promises.{by-refusal}
use Rattle.mark_call.specs.Told.{told}
use Rattle.mark_call.proofs.Marking.{bad-name, bad-sheet, no_room, marked}
use Rattle.mark_call.proofs.try_mark.Goals as goal

pub returns-then-not-is_good : goal.returns-then-not-is_good
returns-then-not-is_good c =
    by-refusal _ _ _ Damaged (damaged (fails _ c.is_good.result c.is_good.ensures c.if-not-is_good.true) refl) refl

pub returns-then-not-is_identifier : goal.returns-then-not-is_identifier
returns-then-not-is_identifier c =
    let good = holds _ c.is_good.result c.is_good.ensures c.if-not-is_good.false in
    by-refusal _ _ _ Identifier (bad-name good _ _ _ (sym c.is_identifier.ensures ∙ c.if-not-is_identifier.true)) refl

pub returns-in_err-counts : goal.returns-in_err-counts
returns-in_err-counts c =
    let good = holds _ c.is_good.result c.is_good.ensures c.if-not-is_good.false in
    let none : c.mark_sheet.result ≡ None = c.in_err-counts.ensures.ok_part in
    let p = err_from_is_err_and c.from_residual.result c.from_residual.ensures.1 in
    let said = c.in_err-counts.ensures.value ∙ ap (λ (o : Option Tally). ok_or o NoSheet) none in
    let passed : c.from_residual.result ≡ Err NoSheet = cc (p.1, p.2, said) in
    subst (λ r. AskedInto (mark c.args.name.now c.args.sheet.now) c.args.store.now c.args.marks.now (told r) c.args.marks.now) (sym passed)
    (by-refusal _ _ _ NoSheet
    (bad-sheet good _ _ _ (sym c.is_identifier.ensures ∙ c.if-not-is_identifier.false) (sym c.mark_sheet.ensures ∙ none)) refl)

pub returns-then-marks-lt32 : goal.returns-then-marks-lt32
returns-then-marks-lt32 c =
    let good = holds _ c.is_good.result c.is_good.ensures c.if-not-is_good.false in
    by-refusal _ _ _ ShortBuffer
    (no_room good _ _ _ (sym c.is_identifier.ensures ∙ c.if-not-is_identifier.false) (sym c.mark_sheet.ensures ∙ c.in_ok-counts.ensures.ok_part)
    c.if-marks-lt32.true) refl

pub returns : goal.returns
returns c =
    let good = holds _ c.is_good.result c.is_good.ensures c.if-not-is_good.false in
    marked good _ _ _ (sym c.is_identifier.ensures ∙ c.if-not-is_identifier.false) (sym c.mark_sheet.ensures ∙ c.in_ok-counts.ensures.ok_part)
    c.if-marks-lt32.false c.is_full.ensures refl c.update.ensures
