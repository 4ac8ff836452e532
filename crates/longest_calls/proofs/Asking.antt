-- What the questions about the longest repeat promise, on plain values. Rests on `Refusals`, `Promises` and `Fits` of the outcomes.
use Prim.Native.Nat.{ℕ, ◌<◌}
use mathlib.Core.Path.{◌≡◌, refl, sym, ap}
use mathlib.Core.Bool.{Bool, true, false}
use native.Mathlib.Omega.{arith}
use lib.Dec.{leb}
use lib.ListN.{length}
use borrow.Author.Tests.{leb-true, leb-false}
use Rattle.palindromes.specs.Word.{Word}
use Rattle.palindromes.specs.Place.{stands_once}
use Rattle.palindromes.specs.Record.{longest_length, longest_place}
use Rattle.palindromes.specs.End.{End, longest_at}
use Rattle.palindromes.specs.Node.{spelt}
use Rattle.palindromes.specs.Refusal.{ask, the_longest, the_longest_at, faults, question_faults, refusal}
use Rattle.palindromes.proofs.Words.{no-letters}
use Rattle.store.specs.Layout.{size_in, letters_in}
use Rattle.store.specs.Good.{rule_of, Good}
use Rattle.store.proofs.Sizes.{letters-length}
use Rattle.transitions.specs.Rows.{row_of}
use Rattle.transitions.specs.Removal.{longest_before}
use Rattle.outcome.specs.Reply.{packed, accepted}
use Rattle.outcome.specs.Outcome.{accepted_outcome, answer_to, lent_after, changed}
use Rattle.outcome.specs.Promise.{nothing, Promise}
use Rattle.outcome.specs.Verdict.{Verdict, damaged, judged}
use Rattle.outcome.proofs.Refusals.{longest-none, longest-accepted, longest-at-none}
use Rattle.outcome.proofs.Promises.{Answerable, carried}
use Rattle.outcome.proofs.Fits.{answer-fits}

module _ (b : Word) (g : Good b) where
  pub no_record : length (letters_in b) ≡ 0 → Verdict (ask the_longest) b nothing 6
  no_record h = judged g (sym (longest-none b nothing (no-letters (letters_in b) (omega arith))))

  pub some-record : (length (letters_in b) ≡ 0 → ⊥) → Verdict (ask the_longest) b nothing 0
  some-record h = judged g (sym (longest-accepted b nothing (λ e. h (ap length e))))

-- the longest at a side is refused as the longest is
pub at_side : (e : End) (b : Word) (n : ℕ) → Verdict (ask the_longest) b nothing n → Verdict (ask (the_longest_at e)) b nothing n
unfolding refusal faults question_faults
at_side e b n (damaged h z) = damaged h z
at_side e b n (judged g z) = judged g z

pub longest-answered : (b : Word) → Answerable (ask the_longest) b nothing → {r : ℕ} → r ≡ packed (accepted false 0 (longest_length (rule_of b) (letters_in b)) (longest_place (rule_of b) (letters_in b)))
    → Promise (ask the_longest) b nothing r b nothing
unfolding accepted_outcome answer_to lent_after changed
longest-answered b a e = carried (ask the_longest) b nothing a.good a.clear (record { reply = e; store = refl; lent = refl })

pub some-letters : (e : End) (b : Word) → Answerable (ask (the_longest_at e)) b nothing → 0 < size_in b
some-letters e b a = go (leb (size_in b) 0) refl
  where
    go : (t : Bool) → leb (size_in b) 0 ≡ t → 0 < size_in b
    go true x = absurd (omega (arith, a.clear, longest-at-none b nothing e (no-letters (letters_in b) (omega (arith, letters-length a.good.sized, leb-true (size_in b) 0 x)))))
    go false x = leb-false (size_in b) 0 x

pub longest-at-answered : (e : End) (b : Word) → Answerable (ask (the_longest_at e)) b nothing → {r : ℕ}
    → r ≡ packed (accepted (stands_once (longest_at (rule_of b) e (letters_in b)) (letters_in b)) (row_of b (spelt (longest_at (rule_of b) e (letters_in b)))) 0 0)
    → Promise (ask (the_longest_at e)) b nothing r b nothing
unfolding accepted_outcome answer_to lent_after changed longest_before
longest-at-answered e b a p = carried (ask (the_longest_at e)) b nothing a.good a.clear (record { reply = p; store = refl; lent = refl })

-- ---- the numbers fit their two bytes

pub longest-few : (b : Word) → Answerable (ask the_longest) b nothing → {n p : ℕ} → n ≡ longest_length (rule_of b) (letters_in b) → p ≡ longest_place (rule_of b) (letters_in b) → (0 < 65536) × (n < 65536) × (p < 65536)
unfolding answer_to accepted
longest-few b a e f = let h = answer-fits a.good the_longest nothing a.clear in (omega arith, omega (arith, h.first), omega (arith, h.second))

pub end-few : (e : End) (b : Word) → Answerable (ask (the_longest_at e)) b nothing → {n : ℕ} → n ≡ row_of b (spelt (longest_at (rule_of b) e (letters_in b))) → (n < 65536) × (0 < 65536) × (0 < 65536)
unfolding answer_to accepted longest_before
end-few e b a f = (omega (arith, (answer-fits a.good (the_longest_at e) nothing a.clear).row), omega arith, omega arith)
