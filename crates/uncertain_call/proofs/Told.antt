-- What a host reads in the answer: the number and both lengths, as the definitions say; the same for a text and for that text in capitals; and for the
-- letters of a plain record what the record answers of its longest repeat. Rests on `Longest`, `Letters` and `Capitals` of `ambiguity`.
use Prim.Native.Nat.{ℕ, zero, suc, ◌≤◌, ◌<◌}
use native.Mathlib.Omega.{arith}
use mathlib.Core.Path.{◌≡◌, refl, sym, ap, ap₂, ◌∙◌, subst}
use mathlib.Core.Bool.{Bool, true, false}
use mathlib.Core.List.{[], map}
use lib.Dec.{ltb}
use lib.ListN.{length, length-map}
use borrow.Author.Tests.{ltb-false}
use Rattle.palindromes.specs.Word.{Word}
use Rattle.palindromes.specs.Palindrome.{plain}
use Rattle.palindromes.specs.Reading.{rule_in}
use Rattle.palindromes.specs.Fasta.{upper}
use Rattle.palindromes.specs.Record.{longest_length}
use Rattle.palindromes.specs.Refusal.{fault, first_fault, the_longest, the_longest_length}
use Rattle.palindromes.proofs.Readings.{rule-of-plain}
use Rattle.store.specs.Layout.{letters_in, reading_in}
use Rattle.store.specs.Good.{Good, rule_of}
use Rattle.store.proofs.Sizes.{letters-length}
use Rattle.outcome.specs.Reply.{Reply, packed, Fits, refused_with, accepted, refusal_in, first_in, second_in, unpacked}
use Rattle.outcome.specs.Outcome.{answer_to}
use Rattle.outcome.specs.Promise.{nothing, Asked}
use Rattle.outcome.proofs.Packing.{unpack-packed}
use Rattle.outcome.proofs.LongestLength.{question-read, length-read}
use Rattle.outcome.proofs.Refusals.{longest-accepted}
use Rattle.ambiguity.specs.Code.{all_codes}
use Rattle.ambiguity.proofs.Longest.{some_fits, every-below-some}
use Rattle.ambiguity.proofs.Letters.{letters-codes, letters-some, letters-every}
use Rattle.ambiguity.proofs.Capitals.{upper-codes, upper-some, upper-every}
use Rattle.uncertain_call.specs.Answer.{text_faults, text_refusal, lengths_reply, uncertain_reply, UncertainPromise}
use Rattle.uncertain_call.proofs.Answering.{by-faults, accepted-text}

-- the fields of every answer fit their bytes
pub reply-fits : (s : Word) → Fits (uncertain_reply s)
unfolding uncertain_reply lengths_reply fault first_fault accepted refused_with
reply-fits s = go (ltb 1024 (length s)) (all_codes s) refl refl
  where
    numbered : (n : ℕ) → text_refusal s ≡ n → Fits (lengths_reply n s) → Fits (lengths_reply (text_refusal s) s)
    numbered n e f = subst (λ (k : ℕ). Fits (lengths_reply k s)) (sym e) f

    refused : (n : ℕ) → n < 256 → Fits (refused_with n)
    refused n l = record { number = l; row = omega arith; first = omega arith; second = omega arith }

    told : length s ≤ 1024 → all_codes s ≡ true → Fits (lengths_reply 0 s)
    told l f =
        let fits = some_fits s f in
        let below = every-below-some s f in
        record { number = omega arith; row = omega arith; first = omega arith; second = omega arith }

    go : (over codes : Bool) → ltb 1024 (length s) ≡ over → all_codes s ≡ codes → Fits (lengths_reply (text_refusal s) s)
    go true codes e f = numbered 5 (by-faults s true codes e f) (refused 5 (omega arith))
    go false false e f = numbered 4 (by-faults s false false e f) (refused 4 (omega arith))
    go false true e f = numbered 0 (by-faults s false true e f) (told (ltb-false 1024 (length s) e) f)

module _ {s : Word} {r : ℕ} (told : UncertainPromise s r) where
  -- what the functions of include/mirror.h read in the number
  pub reply-read : unpacked r ≡ uncertain_reply s
  reply-read = ap unpacked told.reply ∙ unpack-packed (uncertain_reply s) (reply-fits s)

  -- 02 (xii) "either case": a text and the same text in capitals get the same answer
  pub capitals-alike : {q : ℕ} → UncertainPromise (map upper s) q → r ≡ q
  unfolding uncertain_reply text_refusal text_faults lengths_reply
  capitals-alike other = told.reply ∙ sym (other.reply ∙ ap packed (ap₂ lengths_reply same_number refl ∙ same-lengths (text_refusal s)))
    where
      same_number : text_refusal (map upper s) ≡ text_refusal s
      same_number = rw (length-map s upper, upper-codes s) refl

      same-lengths : (n : ℕ) → lengths_reply n (map upper s) ≡ lengths_reply n s
      same-lengths zero = ap₂ (λ (a b : ℕ). accepted false 0 a b) (upper-some s) (upper-every s)
      same-lengths (suc n) = refl

-- ---- a text of the four letters, beside a plain record of these letters

module _ {b : Word} (g : Good b) (reads : reading_in b ≡ 0) {r : ℕ} (told : UncertainPromise (letters_in b) r) where
  both-are-longest : (refusal_in r ≡ 0) × (first_in r ≡ longest_length (rule_of b) (letters_in b)) × (second_in r ≡ longest_length (rule_of b) (letters_in b))
  unfolding uncertain_reply lengths_reply unpacked accepted
  both-are-longest =
      let s = letters_in b in
      let limit : length s ≤ 1024 = omega (arith, letters-length g.sized, g.sized.letters-fit, g.sized.at_most) in
      let number = accepted-text s limit (letters-codes s g.letters) in
      let read : unpacked r ≡ lengths_reply 0 s = reply-read told ∙ ap (λ (n : ℕ). lengths_reply n s) number in
      let rule : plain ≡ rule_of b = sym (ap rule_in reads ∙ rule-of-plain) in
      let longest : longest_length plain s ≡ longest_length (rule_of b) s = ap (λ (σ : ℕ → ℕ). longest_length σ s) rule in (
        ap (λ (a : Reply). a.number) read,
        ap (λ (a : Reply). a.first) read ∙ letters-some s g.letters ∙ longest,
        ap (λ (a : Reply). a.second) read ∙ letters-every s g.letters ∙ longest,
      )

  -- both lengths are that which the question about the longest length answers
  pub letters-longest-length : {x : ℕ} → Asked the_longest_length b nothing x nothing
      → (refusal_in r ≡ 0) × (first_in r ≡ first_in x) × (second_in r ≡ first_in x)
  letters-longest-length asked =
      let both = both-are-longest in
      let length-is = (length-read g asked).1 in
      (both.0, both.1 ∙ sym length-is, both.2 ∙ sym length-is)

  -- and, where a letter stands, that of the longest question
  pub letters-longest : (letters_in b ≡ [] → ⊥) → {y : ℕ} → Asked the_longest b nothing y nothing
      → (first_in r ≡ first_in y) × (second_in r ≡ first_in y)
  unfolding unpacked answer_to accepted
  letters-longest n asked =
      let both = both-are-longest in
      let length-is = ap (λ (a : Reply). a.first) (question-read g the_longest (longest-accepted b nothing n) asked) in
      (both.1 ∙ sym length-is, both.2 ∙ sym length-is)
