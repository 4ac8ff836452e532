-- How often is told where the verdict on it is 0, and else the call is refused with the verdict's number.
use Rattle.std.proofs.Common.{ℕ, false, refl, ap, ◌∙◌, arith}
use Rattle.outcome.specs.Reply.{packed, accepted}
use Rattle.outcome.proofs.Promises.{by-refusal, answerable}
use Rattle.outcome.proofs.Refusals.{frequency-row}
use Rattle.outcome.proofs.Fits.{frequency-small}
use Rattle.frequency_calls.proofs.Asking.{frequency-answered}
use Rattle.frequency_calls.proofs.frequency.Goals as goal

pub frequency-places-requires-clause-row_value : goal.frequency-places-requires-clause-row_value
frequency-places-requires-clause-row_value c = let r = frequency-row _ _ _ (answerable _ _ _ _ c.in-Ok.ensures refl).clear in (r.1, r.0)

pub pack-requires : goal.pack-requires
pack-requires c =
    let a = answerable _ _ _ _ c.in-Ok.ensures refl in
    let r = frequency-row _ _ _ a.clear in
    (omega arith, omega (arith, c.frequency-places.ensures, frequency-small a.good _ r.0 r.1), omega arith)

pub returns-in-Ok : goal.returns-in-Ok
returns-in-Ok c =
    frequency-answered _ _ (answerable _ _ _ _ c.in-Ok.ensures refl)
    (c.pack.ensures ∙ ap (λ (n : ℕ). packed (accepted false 0 n 0)) c.frequency-places.ensures)

pub returns-in-Err : goal.returns-in-Err
returns-in-Err c = by-refusal _ _ _ _ c.in-Err.ensures c.refuse.ensures
