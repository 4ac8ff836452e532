-- What the test tells of the ends is the answer. Assumes nothing.
use Rattle.std.proofs.Common.{ℕ, Bool, ◌∙◌, refl}
use mathlib.Core.Path.{ap₂}
use Rattle.palindromes.specs.Word.{Word}
use Rattle.palindromes.specs.End.{End}
use Rattle.palindromes.specs.Refusal.{ask, the_longest, the_longest_at}
use Rattle.store.specs.Side.{end_of}
use Rattle.outcome.specs.Reply.{packed, accepted}
use Rattle.outcome.specs.Promise.{nothing}
use Rattle.outcome.specs.Verdict.{Verdict}
use Rattle.outcome.proofs.Promises.{by-refusal, Answerable, answerable}
use Rattle.longest_calls.proofs.Asking.{at_side, some-letters, end-few, longest-at-answered}
use Rattle.longest_calls.proofs.longest_at.Goals as goal

-- the question can be answered
answers : (e : End) (b : Word) → Verdict (ask the_longest) b nothing 0 → Answerable (ask (the_longest_at e)) b nothing
answers e b v = answerable _ _ _ 0 (at_side e b 0 v) refl

pub longest_at-found-requires-clause-b_nonzero : goal.longest_at-found-requires-clause-b_nonzero
longest_at-found-requires-clause-b_nonzero c = some-letters _ _ (answers (end_of c.args.side) c.args.store.now c.in-Ok.ensures.0)

pub pack-requires : goal.pack-requires
pack-requires c = end-few _ _ (answers (end_of c.args.side) c.args.store.now c.in-Ok.ensures.0) c.longest_at-found.ensures.row

pub returns-in-Ok : goal.returns-in-Ok
returns-in-Ok c =
    longest-at-answered _ _ (answers (end_of c.args.side) c.args.store.now c.in-Ok.ensures.0)
    (c.pack.ensures ∙ ap₂ (λ (t : Bool) (n : ℕ). packed (accepted t n 0 0)) c.longest_at-found.ensures.once c.longest_at-found.ensures.row)

pub returns-in-Err : goal.returns-in-Err
returns-in-Err c = by-refusal _ _ _ _ (at_side (end_of c.args.side) c.args.store.now _ c.in-Err.ensures) c.refuse.ensures
