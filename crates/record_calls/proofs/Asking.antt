-- What the questions about the record promise, on plain values. Rests on `Refusals`, `Promises` and `Fits` of the outcomes.
use Prim.Native.Nat.{ℕ, ◌≤◌, ◌<◌}
use mathlib.Core.Path.{◌≡◌, refl, sym, ap, ◌∙◌}
use mathlib.Core.Bool.{Bool, true, false}
use native.Mathlib.Omega.{arith}
use lib.Dec.{leb}
use lib.ListN.{length, get_or}
use borrow.Author.Tests.{leb-true, leb-false}
use Rattle.refusal.specs.declared.Refusal.TheVariants.{Damaged}
use Rattle.refusal.specs.Number.{number_of}
use Rattle.palindromes.specs.Word.{Word}
use Rattle.palindromes.specs.Record.{count}
use Rattle.palindromes.specs.Refusal.{Question, ask, the_length, the_count, the_longest_length, the_letter}
use Rattle.store.specs.Layout.{longest_length_in, letters_in}
use Rattle.store.specs.Good.{rule_of, Good}
use Rattle.outcome.specs.Reply.{packed, accepted, refused_with}
use Rattle.outcome.specs.Outcome.{accepted_outcome, answer_to, lent_after, changed}
use Rattle.outcome.specs.Promise.{nothing, Promise}
use Rattle.outcome.specs.Verdict.{Verdict, damaged, judged}
use Rattle.outcome.proofs.Refusals.{length-accepted, count-accepted, longest-length-accepted, letter-outside, letter-accepted}
use Rattle.outcome.proofs.Promises.{by-refusal, Answerable, carried}
use Rattle.outcome.proofs.Fits.{few, answer-fits}

-- a store that is not good is refused
pub damaged-refused : (q : Question) (b : Word) {r : ℕ} → (Good b → ⊥) → r ≡ packed (refused_with (number_of Damaged)) → Promise (ask q) b nothing r b nothing
damaged-refused q b n e = by-refusal (ask q) b nothing Damaged (damaged n refl) e

module _ (b : Word) (g : Good b) where
  pub length-answered : {r : ℕ} → r ≡ packed (accepted false 0 (length (letters_in b)) 0) → Promise (ask the_length) b nothing r b nothing
  unfolding accepted_outcome answer_to lent_after changed
  length-answered e = carried (ask the_length) b nothing g (length-accepted b nothing) (record { reply = e; store = refl; lent = refl })

  pub length-few : length (letters_in b) < 65536
  length-few = omega (arith, few g)

  pub count-few : count (rule_of b) (letters_in b) < 65536
  unfolding answer_to accepted
  count-few = (answer-fits g the_count nothing (count-accepted b nothing)).first

  pub count-answered : {r : ℕ} → r ≡ packed (accepted false 0 (count (rule_of b) (letters_in b)) 0) → Promise (ask the_count) b nothing r b nothing
  unfolding accepted_outcome answer_to lent_after changed
  count-answered e = carried (ask the_count) b nothing g (count-accepted b nothing) (record { reply = e; store = refl; lent = refl })

  -- what the store carries is the length of the longest
  pub longest-length-answered : {r : ℕ} → r ≡ packed (accepted false 0 (longest_length_in b) 0) → Promise (ask the_longest_length) b nothing r b nothing
  unfolding accepted_outcome answer_to lent_after changed
  longest-length-answered e =
      carried (ask the_longest_length) b nothing g (longest-length-accepted b nothing)
      (record { reply = e ∙ ap (λ (n : ℕ). packed (accepted false 0 n 0)) g.longest-is; store = refl; lent = refl })

  pub outside : (i : ℕ) → length (letters_in b) ≤ i → Verdict (ask (the_letter i)) b nothing 7
  outside i h = judged g (sym (letter-outside b nothing i h))

  pub inside : (i : ℕ) → i < length (letters_in b) → Verdict (ask (the_letter i)) b nothing 0
  inside i h = judged g (sym (letter-accepted b nothing i h))

pub place_inside : (i : ℕ) (b : Word) → Answerable (ask (the_letter i)) b nothing → i < length (letters_in b)
place_inside i b a = go (leb (length (letters_in b)) i) refl
  where
    go : (t : Bool) → leb (length (letters_in b)) i ≡ t → i < length (letters_in b)
    go true e = absurd (omega (arith, a.clear, letter-outside b nothing i (leb-true (length (letters_in b)) i e)))
    go false e = leb-false (length (letters_in b)) i e

pub letter-answered : (i : ℕ) (b : Word) → Answerable (ask (the_letter i)) b nothing → {r : ℕ} → r ≡ packed (accepted false 0 (get_or (letters_in b) i 0) 0) → Promise (ask (the_letter i)) b nothing r b nothing
unfolding accepted_outcome answer_to lent_after changed
letter-answered i b a e = carried (ask (the_letter i)) b nothing a.good a.clear (record { reply = e; store = refl; lent = refl })
