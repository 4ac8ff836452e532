-- A letter is told where the verdict on it is 0, and else the call is refused with the verdict's number.
use Rattle.std.proofs.Common.{ℕ, false, refl, ap, ◌∙◌}
use Rattle.outcome.specs.Reply.{packed, accepted}
use Rattle.outcome.proofs.Promises.{by-refusal, answerable}
use Rattle.record_calls.proofs.Asking.{place_inside, letter-answered}
use Rattle.record_calls.proofs.letter.Goals as goal

pub letter-letter-requires-clause-i_in_bounds : goal.letter-letter-requires-clause-i_in_bounds
letter-letter-requires-clause-i_in_bounds c = place_inside _ _ (answerable _ _ _ _ c.in-Ok.ensures refl)

pub returns-in-Ok : goal.returns-in-Ok
returns-in-Ok c =
    letter-answered _ _ (answerable _ _ _ _ c.in-Ok.ensures refl)
    (c.pack.ensures ∙ ap (λ (n : ℕ). packed (accepted false 0 n 0)) (c.from.ensures ∙ c.letter-letter.ensures))

pub returns-in-Err : goal.returns-in-Err
returns-in-Err c = by-refusal _ _ _ _ c.in-Err.ensures c.refuse.ensures
