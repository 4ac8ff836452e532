-- What a host reads in the answer about the longest length: on a record that is not empty, the length that the longest question answers; on one without a repeat, the empty one among them, 0 in
-- every field. Rests on `Told` and `Refusals`.
use Prim.Native.Nat.{ℕ}
use mathlib.Core.Path.{◌≡◌, ap, ◌∙◌}
use mathlib.Core.Bool.{false}
use mathlib.Core.List.{[]}
use Rattle.palindromes.specs.Word.{Word}
use Rattle.palindromes.specs.Record.{palindromes, longest_length}
use Rattle.palindromes.specs.Refusal.{Question, the_longest, the_longest_length, ask, refusal}
use Rattle.palindromes.proofs.Answers.{none-length}
use Rattle.store.specs.Layout.{letters_in}
use Rattle.store.specs.Good.{rule_of, Good}
use Rattle.outcome.specs.Reply.{Reply, bit, packed, accepted, answered, refusal_in, first_in, unpacked}
use Rattle.outcome.specs.Outcome.{Outcome, view_in, answer_to, accepted_outcome}
use Rattle.outcome.specs.Promise.{nothing, Asked}
use Rattle.outcome.proofs.Refusals.{longest-accepted, longest-length-accepted, carried-out}
use Rattle.outcome.proofs.Told.{told}

module _ {b : Word} (g : Good b) where
  -- an accepted question on a good store: what the host unpacks is the answer
  pub question-read : (q : Question) {x : ℕ} → refusal (rule_of b) (view_in b nothing) (ask q) ≡ 0 → Asked q b nothing x nothing
      → unpacked x ≡ answered (answer_to q b)
  unfolding accepted_outcome
  question-read q e p = (told g p).reply ∙ ap (λ (o : Outcome). o.reply) (carried-out (ask q) b nothing e)

  module _ {x : ℕ} (asked : Asked the_longest_length b nothing x nothing) where
    -- the length that is read
    pub length-read : (refusal_in x ≡ 0) × (first_in x ≡ longest_length (rule_of b) (letters_in b))
    unfolding unpacked answer_to accepted
    length-read =
        let r = question-read the_longest_length (longest-length-accepted b nothing) asked in
        (ap (λ (r : Reply). r.number) r, ap (λ (r : Reply). r.first) r)

    -- 02 (ii) "for any other the length that the longest question answers"
    pub longest-length-agrees : (letters_in b ≡ [] → ⊥) → {y : ℕ} → Asked the_longest b nothing y nothing → (refusal_in x ≡ 0) × (refusal_in y ≡ 0) × (first_in x ≡ first_in y)
    unfolding unpacked answer_to accepted
    longest-length-agrees n p =
        let r = question-read the_longest (longest-accepted b nothing n) p in
        (length-read.0, ap (λ (r : Reply). r.number) r, cc (length-read.1, ap (λ (r : Reply). r.first) r))

    -- 02 (ii) "0 for an empty record", and for any that has no repeat
    pub longest-length-none : palindromes (rule_of b) (letters_in b) ≡ [] → x ≡ 0
    unfolding answer_to accepted_outcome accepted packed bit
    longest-length-none e =
        (told g asked).number
        ∙ ap (λ (o : Outcome). packed o.reply) (carried-out (ask the_longest_length) b nothing (longest-length-accepted b nothing))
        ∙ ap (λ (n : ℕ). packed (accepted false 0 n 0)) (none-length (rule_of b) (letters_in b) e)
