-- Where the longest can be asked, its length and place are the answer. Assumes nothing.
use Rattle.std.proofs.Common.{ℕ, false, ◌∙◌, refl}
use mathlib.Core.Path.{ap₂}
use Rattle.outcome.specs.Reply.{packed, accepted}
use Rattle.outcome.proofs.Promises.{by-refusal, answerable}
use Rattle.longest_calls.proofs.Asking.{longest-few, longest-answered}
use Rattle.longest_calls.proofs.longest_repeat.Goals as goal

pub pack-requires : goal.pack-requires
pack-requires c = longest-few _ (answerable _ _ _ 0 c.in-Ok.ensures.0 refl) c.longest-found.ensures.length c.longest-found.ensures.place

pub returns-in-Ok : goal.returns-in-Ok
returns-in-Ok c =
    longest-answered _ (answerable _ _ _ 0 c.in-Ok.ensures.0 refl)
    (c.pack.ensures ∙ ap₂ (λ (n p : ℕ). packed (accepted false 0 n p)) c.longest-found.ensures.length c.longest-found.ensures.place)

pub returns-in-Err : goal.returns-in-Err
returns-in-Err c = by-refusal _ _ _ _ c.in-Err.ensures c.refuse.ensures
