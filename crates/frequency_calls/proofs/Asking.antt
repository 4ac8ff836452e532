-- What the questions about frequencies promise, on plain values. Rests on `Refusals`, `Promises` and `Fits` of the outcomes.
use Prim.Native.Nat.{ℕ, ◌≤◌, ◌<◌}
use mathlib.Core.Path.{◌≡◌, refl, sym}
use mathlib.Core.Bool.{true, false}
use Rattle.palindromes.specs.Word.{Word}
use Rattle.palindromes.specs.Place.{frequency}
use Rattle.palindromes.specs.Occurrences.{occurrences_by_row, occurrences_by_end}
use Rattle.palindromes.specs.Node.{spelling_of}
use Rattle.palindromes.specs.Refusal.{ask, the_frequency, the_occurrences}
use Rattle.store.specs.Layout.{used_in, letters_in}
use Rattle.store.specs.Good.{rule_of, node_in, Good}
use Rattle.outcome.specs.Reply.{packed, accepted, answered}
use Rattle.outcome.specs.Wide.{wide_answer}
use Rattle.outcome.specs.Outcome.{accepted_outcome, answer_to, lent_after, changed}
use Rattle.outcome.specs.Promise.{nothing, Promise}
use Rattle.outcome.specs.Verdict.{Verdict, judged}
use Rattle.outcome.proofs.Refusals.{frequency-root, frequency-free, frequency-accepted, occurrences-accepted}
use Rattle.outcome.proofs.Promises.{Answerable, carried}

-- ---- one row

module _ (b : Word) (g : Good b) where
  pub root : (r : ℕ) → r < 2 → Verdict (ask (the_frequency r)) b nothing 7
  root r h = judged g (sym (frequency-root b nothing r h))

  pub unused : (r : ℕ) → 2 ≤ r → used_in b r ≡ false → Verdict (ask (the_frequency r)) b nothing 7
  unused r l h = judged g (sym (frequency-free b nothing r l h))

  pub used : (r : ℕ) → 2 ≤ r → used_in b r ≡ true → Verdict (ask (the_frequency r)) b nothing 0
  used r l h = judged g (sym (frequency-accepted b nothing r l h))

pub frequency-answered : (q : ℕ) (b : Word) → Answerable (ask (the_frequency q)) b nothing → {r : ℕ}
    → r ≡ packed (accepted false 0 (frequency (spelling_of (node_in b q)) (letters_in b)) 0) → Promise (ask (the_frequency q)) b nothing r b nothing
unfolding accepted_outcome answer_to lent_after changed
frequency-answered q b a p = carried (ask (the_frequency q)) b nothing a.good a.clear (record { reply = p; store = refl; lent = refl })

-- ---- all of them

module _ (b : Word) (g : Good b) where
  pub occurrences-answered : {r : ℕ} → r ≡ packed (answered (wide_answer (occurrences_by_row (rule_of b) (letters_in b)) (occurrences_by_end (rule_of b) (letters_in b)))) → Promise (ask the_occurrences) b nothing r b nothing
  unfolding accepted_outcome answer_to lent_after changed
  occurrences-answered e = carried (ask the_occurrences) b nothing g (occurrences-accepted b nothing) (record { reply = e; store = refl; lent = refl })
