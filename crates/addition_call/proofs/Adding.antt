-- What an addition promises, on plain values: the verdict, and what is left where the letter is added.
use Prim.Native.Nat.{ℕ, ◌≤◌, ◌<◌}
use mathlib.Core.Path.{◌≡◌, refl, sym, ap, ◌∙◌, subst}
use mathlib.Core.Bool.{Bool, true, false, cond}
use native.Mathlib.Omega.{arith}
use lib.Dec.{eqb}
use borrow.Author.Tests.{eqb-true}
use Rattle.palindromes.specs.Word.{Word, is_letter}
use Rattle.palindromes.specs.Palindrome.{plain}
use Rattle.palindromes.specs.Reading.{reading_number, rule_in}
use Rattle.palindromes.specs.End.{End, at_left, at_right}
use Rattle.palindromes.specs.Node.{spelt}
use Rattle.palindromes.specs.SearchSteps.{search_steps, reported_steps}
use Rattle.palindromes.specs.Refusal.{add, refusal}
use Rattle.palindromes.proofs.Readings.{rule-of-plain}
use Rattle.store.specs.Layout.{capacity_in, size_in, reading_in, letters_in}
use Rattle.store.specs.Good.{rule_of, Good}
use Rattle.store.specs.Writes.{towards}
use Rattle.store.proofs.Sizes.{letters-length}
use Rattle.walk.specs.Replay.{steps_towards}
use Rattle.transitions.specs.Rows.{row_of, free_row}
use Rattle.transitions.specs.Addition.{longest_after, brings_in, row_after, after_addition}
use Rattle.transitions.proofs.Rows.{free-below, row_small}
use Rattle.outcome.specs.declared.answers.Added.{Added}
use Rattle.outcome.specs.Reply.{packed, accepted}
use Rattle.outcome.specs.Answers.{added_of, added_reply}
use Rattle.outcome.specs.Outcome.{view_in, accepted_outcome, changed}
use Rattle.outcome.specs.Promise.{nothing, Promise}
use Rattle.outcome.specs.Verdict.{Verdict, judged}
use Rattle.outcome.proofs.Refusals.{add-letter, add-full, add-accepted}
use Rattle.outcome.proofs.Promises.{cleared, carried, add-cleared}
use Rattle.outcome.proofs.Fits.{reported-small}
use Rattle.addition_call.specs.Reported.{reports_in, reported_of}

pub not-letter : (e : End) (c : ℕ) (b : Word) → Good b → is_letter c ≡ false → Verdict (add e c) b nothing 4
not-letter e c b g h = judged g (sym (add-letter b nothing e c h))

pub is-full : (e : End) (c : ℕ) (b : Word) → Good b → is_letter c ≡ true → capacity_in b ≤ size_in b → Verdict (add e c) b nothing 5
is-full e c b g h k = judged g (sym (add-full b nothing e c h (omega (arith, letters-length g.sized))))

pub can-add : (e : End) (c : ℕ) (b : Word) → Good b → is_letter c ≡ true → size_in b < capacity_in b → Verdict (add e c) b nothing 0
can-add e c b g h k = judged g (sym (add-accepted b nothing e c h (omega (arith, letters-length g.sized))))

-- what a verdict of 0 tells
pub record Addable (e : End) (c : ℕ) (b : Word) : Type 0 where
  pub good : Good b
  pub letter : is_letter c ≡ true
  pub room : size_in b < capacity_in b
  pub clear : refusal (rule_of b) (view_in b nothing) (add e c) ≡ 0

pub addable : (e : End) (c : ℕ) (b : Word) (n : ℕ) → Verdict (add e c) b nothing n → n ≡ 0 → Addable e c b
addable e c b n v z =
    let h = cleared (add e c) b nothing n v z in
    let a = add-cleared e c b h.0 h.1 in
    record { good = h.0; letter = a.0; room = a.1; clear = h.1 }

-- what the search passes is what the letters say, where it is reported
steps-plain : (c : ℕ) (b : Word) → reading_in b ≡ 0 → steps_towards b at_right c ≡ search_steps plain c (letters_in b)
unfolding towards
steps-plain c b e = ap (λ (σ : ℕ → ℕ). search_steps σ c (letters_in b)) (ap rule_in e ∙ rule-of-plain)

-- what is answered: a repeat with the free row, or none, and what is reported of the search
abbrev pub answer_of : End → ℕ → Word → Added
answer_of e c b = added_of (brings_in e c b) (free_row b) (reported_steps (reading_in b) e c (letters_in b))

pub reported-is : (e : End) (c : ℕ) (b : Word) → reported_of (reports_in (reading_in b) e) (added_of (brings_in e c b) (free_row b) (steps_towards b e c)) ≡ answer_of e c b
unfolding reported_steps reading_number
reported-is e c b = by_end e (brings_in e c b)
  where
    counted : (u : Bool) → eqb (reading_in b) 0 ≡ u → (t : Bool)
        → reported_of u (added_of t (free_row b) (steps_towards b at_right c)) ≡ added_of t (free_row b) (cond u (search_steps plain c (letters_in b)) 0)
    counted true f t = ap (added_of t (free_row b)) (steps-plain c b (eqb-true (reading_in b) 0 f))
    counted false f true = refl
    counted false f false = refl

    by_end : (e : End) (t : Bool) → reported_of (reports_in (reading_in b) e) (added_of t (free_row b) (steps_towards b e c)) ≡ added_of t (free_row b) (reported_steps (reading_in b) e c (letters_in b))
    by_end at_left true = refl
    by_end at_left false = refl
    by_end at_right t = counted (eqb (reading_in b) 0) refl t

-- its numbers fit their two bytes
pub added-fits : (e : End) (c : ℕ) (b : Word) (a : Added) → Addable e c b → a ≡ answer_of e c b → ((added_reply a).row < 65536) × ((added_reply a).first < 65536)
unfolding added_reply accepted
added-fits e c b a h q = subst (λ (x : Added). ((added_reply x).row < 65536) × ((added_reply x).first < 65536)) (sym q) (go (brings_in e c b))
  where
    go : (t : Bool) → ((added_reply (added_of t (free_row b) (reported_steps (reading_in b) e c (letters_in b)))).row < 65536) × ((added_reply (added_of t (free_row b) (reported_steps (reading_in b) e c (letters_in b)))).first < 65536)
    go true = (row_small h.good (free_row b) (free-below h.good h.room), reported-small h.good e c)
    go false = (omega arith, reported-small h.good e c)

pub added : (e : End) (c : ℕ) (b : Word) (a : Added) {r : ℕ} {b' : Word} → Addable e c b → a ≡ answer_of e c b → r ≡ packed (added_reply a) → b' ≡ after_addition e c b
    → Promise (add e c) b nothing r b' nothing
unfolding accepted_outcome changed row_after
added e c b a h q p s = carried (add e c) b nothing h.good h.clear (record { reply = p ∙ ap (λ (x : Added). packed (added_reply x)) (q ∙ go (brings_in e c b)); store = s; lent = refl })
  where
    go : (t : Bool) → added_of t (free_row b) (reported_steps (reading_in b) e c (letters_in b)) ≡ added_of t (cond t (free_row b) (row_of b (spelt (longest_after e c b)))) (reported_steps (reading_in b) e c (letters_in b))
    go true = refl
    go false = refl
