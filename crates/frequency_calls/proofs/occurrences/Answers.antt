-- Both sums are told of a good store, and fit.
use Rattle.std.proofs.Common.{ℕ, refl, ap₂, ◌∙◌, arith}
use Rattle.refusal.specs.declared.Refusal.TheVariants.{Damaged}
use Rattle.outcome.specs.Reply.{packed, answered}
use Rattle.outcome.specs.Wide.{wide_answer}
use Rattle.outcome.specs.Verdict.{damaged}
use Rattle.outcome.proofs.Promises.{by-refusal}
use Rattle.outcome.proofs.Fits.{few-occurrences}
use Rattle.frequency_calls.proofs.Asking.{occurrences-answered}
use Rattle.frequency_calls.proofs.occurrences.Goals as goal

pub returns-then-not-is_good : goal.returns-then-not-is_good
returns-then-not-is_good c = by-refusal _ _ _ Damaged (damaged c.if-not-is_good.ensures refl) c.refuse.ensures

pub pack_wide-requires : goal.pack_wide-requires
pack_wide-requires c =
    let n = few-occurrences c.if-not-is_good.ensures in
    (omega (arith, n.0, c.occurrences_by_row-by_rows.ensures), omega (arith, n.1, c.occurrences_by_end-by_ends.ensures))

pub returns : goal.returns
returns c =
    let rows = c.occurrences_by_row-by_rows.ensures in
    let ends = c.occurrences_by_end-by_ends.ensures in
    occurrences-answered _ c.if-not-is_good.ensures (c.pack_wide.ensures ∙ ap₂ (λ (x y : ℕ). packed (answered (wide_answer x y))) rows ends)
