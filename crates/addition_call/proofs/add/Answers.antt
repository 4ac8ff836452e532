-- An addition keeps its promise, and the row that it takes is free.
use Rattle.std.proofs.Common.{◌≡◌, ℕ, Bool, true, refl, ap₂, ◌∙◌, [], arith}
use Rattle.palindromes.specs.Word.{Word, all_letters}
use Rattle.palindromes.specs.End.{End}
use Rattle.palindromes.proofs.Tests.{both-are}
use Rattle.palindromes.proofs.Letters.{letter-byte}
use Rattle.store.specs.Layout.{reading_in}
use Rattle.walk.proofs.Stores.{header-fits}
use Rattle.walk.specs.Replay.{steps_towards}
use Rattle.transitions.specs.Rows.{free_row}
use Rattle.transitions.specs.Addition.{brings_in}
use Rattle.transitions.specs.Turning.{after_additions}
use Rattle.outcome.specs.declared.answers.Added.{Added}
use Rattle.outcome.specs.Answers.{added_of}
use Rattle.outcome.proofs.Promises.{by-refusal, free-taken}
use Rattle.addition_call.specs.Reported.{reports_in, reported_of}
use Rattle.addition_call.proofs.Adding.{addable, reported-is, answer_of, added-fits, added}
use Rattle.addition_call.proofs.add.Goals as goal

-- what the one letter brings, and what is reported of it
told : (e : End) (l : ℕ) (b : Word) {t : Bool} {f a : Added} → t ≡ reports_in (reading_in b) e
    → f ≡ added_of (brings_in e l b) (free_row b) (steps_towards b e l) → a ≡ reported_of t f → a ≡ answer_of e l b
told e l b p q r = r ∙ ap₂ reported_of p q ∙ reported-is e l b

pub reports-told-requires : goal.reports-told-requires
reports-told-requires c = header-fits (addable _ _ _ _ c.in-Ok.ensures refl).good.sized

pub overflow_cast-letter : goal.overflow_cast-letter
overflow_cast-letter c = omega (arith, letter-byte _ (addable _ _ _ _ c.in-Ok.ensures refl).letter)

pub fill-added-requires-clause-letters_value : goal.fill-added-requires-clause-letters_value
unfolding all_letters
fill-added-requires-clause-letters_value c =
    let a = addable _ _ _ _ c.in-Ok.ensures refl in
    (both-are _ true a.letter refl, omega (arith, a.room))

pub answer_added-requires : goal.answer_added-requires
unfolding after_additions
answer_added-requires c =
    added-fits _ _ _ _ (addable _ _ _ _ c.in-Ok.ensures refl) (told _ _ _ c.reports-told.ensures (c.fill-added.ensures.last [] _ refl) c.reported.ensures)

pub returns-in-Ok-clause-promise : goal.returns-in-Ok-clause-promise
unfolding after_additions
returns-in-Ok-clause-promise c =
    added _ _ _ _ (addable _ _ _ _ c.in-Ok.ensures refl) (told _ _ _ c.reports-told.ensures (c.fill-added.ensures.last [] _ refl) c.reported.ensures)
    c.answer_added.ensures c.fill-added.ensures.store

pub returns-in-Ok-clause-free : goal.returns-in-Ok-clause-free
returns-in-Ok-clause-free c = free-taken _ _ _

pub returns-in-Err-clause-promise : goal.returns-in-Err-clause-promise
returns-in-Err-clause-promise c = by-refusal _ _ _ _ c.in-Err.ensures c.refuse.ensures
