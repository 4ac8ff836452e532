-- The reply of each case is packed.
use Rattle.std.proofs.Common.{◌<◌, true, false, sym, ap, ◌∙◌, subst, arith}
use Rattle.outcome.specs.Reply.{packed, accepted}
use Rattle.outcome.specs.declared.answers.Removed.{Removed}
use Rattle.outcome.specs.Answers.{removed_reply}
use Rattle.outcome.proofs.answers.answer_removed.Goals as goal

pub pack-requires : goal.pack-requires
unfolding removed_reply accepted
pack-requires c = (subst (λ (a : Removed). (removed_reply a).row < 65536) c.in-Gone.is c.requires, omega (arith, c.from.ensures), omega arith)

pub returns-in-Gone : goal.returns-in-Gone
unfolding removed_reply
returns-in-Gone c =
    c.pack.ensures ∙ ap (λ x. packed (accepted true c.in-Gone.row x 0)) c.from.ensures ∙ ap (λ (a : Removed). packed (removed_reply a)) (sym c.in-Gone.is)

pub returns-in-Kept : goal.returns-in-Kept
unfolding removed_reply
returns-in-Kept c =
    c.pack-in-Kept.ensures ∙ ap (λ x. packed (accepted false 0 x 0)) c.from-in-Kept.ensures ∙ ap (λ (a : Removed). packed (removed_reply a)) (sym c.in-Kept.is)
