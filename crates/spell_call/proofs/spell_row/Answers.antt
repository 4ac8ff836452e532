-- The row is spelt where the verdict is 0, and else the call is refused with the verdict's number.
use Rattle.std.proofs.Common.{ℕ, refl, ap, ◌∙◌, false, arith}
use mathlib.Core.List.{[]}
use Rattle.palindromes.specs.Refusal.{spell}
use Rattle.outcome.specs.Reply.{packed, accepted}
use Rattle.outcome.specs.Outcome.{answer_to, lent_after, written}
use Rattle.outcome.specs.Promise.{lending}
use Rattle.outcome.proofs.Promises.{by-refusal, answerable}
use Rattle.outcome.proofs.Questions.{question-answered, question-packs, spell-allowed}
use Rattle.spell_call.proofs.spell_row.Goals as goal

pub spell-requires : goal.spell-requires
spell-requires c =
    let a = answerable _ _ _ _ c.in-Ok.ensures refl in
    let h = spell-allowed _ _ _ a in record { good = a.good; r_value = h.0; r_in_bounds = h.1 }

pub pack-requires : goal.pack-requires
unfolding answer_to
pack-requires c = omega (arith, question-packs (spell _) _ _ (answerable _ _ _ _ c.in-Ok.ensures refl), c.spell.ensures.letters)

pub returns-in-Ok : goal.returns-in-Ok
unfolding answer_to lent_after written
returns-in-Ok c =
    let reply = c.pack.ensures ∙ ap (λ (n : ℕ). packed (accepted false 0 n 0)) c.spell.ensures.letters in
    question-answered (spell _) _ _ (answerable _ _ _ _ c.in-Ok.ensures refl) reply (ap (lending []) c.spell.ensures.written)

pub returns-in-Err : goal.returns-in-Err
returns-in-Err c = by-refusal _ _ _ _ c.in-Err.ensures c.refuse.ensures
