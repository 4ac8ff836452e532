-- What a host reads in the answer about all repeats counted by place: both sums, which are equal and at most 524,800.
-- Rests on `Wide`, `Told`, `Refusals` and the laws of the sums.
use Prim.Native.Nat.{ℕ, ◌≤◌}
use native.Mathlib.Omega.{arith}
use mathlib.Core.Path.{◌≡◌, sym, ap, ◌∙◌}
use Rattle.palindromes.specs.Word.{Word}
use Rattle.palindromes.specs.Occurrences.{occurrences_by_row, occurrences_by_end}
use Rattle.palindromes.specs.Refusal.{the_occurrences, ask}
use Rattle.palindromes.proofs.Occurrences.{occurrences-agree, occurrences-limit}
use Rattle.store.specs.Layout.{letters_in}
use Rattle.store.specs.Good.{rule_of, Good}
use Rattle.outcome.specs.Reply.{packed, answered, refusal_in, flag_in}
use Rattle.outcome.specs.Wide.{wide_answer, by_rows_in, by_ends_in}
use Rattle.outcome.specs.Outcome.{Lent, Outcome, answer_to, accepted_outcome}
use Rattle.outcome.specs.Promise.{Promise}
use Rattle.outcome.proofs.Wide.{wide_read}
use Rattle.outcome.proofs.Refusals.{occurrences-accepted, carried-out}
use Rattle.outcome.proofs.Told.{told}
use Rattle.outcome.proofs.Fits.{few, few-occurrences}

module _ {b : Word} (g : Good b) {l l' : Lent} {x : ℕ} {b' : Word} (asked : Promise (ask the_occurrences) b l x b' l') where
  -- the number that is answered
  answered-number : x ≡ packed (answered (wide_answer (occurrences_by_row (rule_of b) (letters_in b)) (occurrences_by_end (rule_of b) (letters_in b))))
  unfolding answer_to accepted_outcome
  answered-number = (told g asked).number ∙ ap (λ (o : Outcome). packed o.reply) (carried-out (ask the_occurrences) b l (occurrences-accepted b l))

  -- 02 (iii) "both answered by one call"
  pub occurrences-read : (refusal_in x ≡ 0) × (flag_in x ≡ 0) × (by_rows_in x ≡ occurrences_by_row (rule_of b) (letters_in b)) × (by_ends_in x ≡ occurrences_by_end (rule_of b) (letters_in b))
  occurrences-read =
      let n = few-occurrences g in
      let r = wide_read (occurrences_by_row (rule_of b) (letters_in b)) (occurrences_by_end (rule_of b) (letters_in b)) n.0 n.1 in
      rw answered-number (r.2, r.3, r.0, r.1)

  -- 02 (iii) "both sums are equal for every record, and at most 524,800"
  pub occurrences-equal : (by_rows_in x ≡ by_ends_in x) × (by_ends_in x ≤ 524800)
  occurrences-equal =
      let r = occurrences-read in
      (r.2 ∙ occurrences-agree (rule_of b) (letters_in b) ∙ sym r.3, omega (arith, r.3, occurrences-limit (rule_of b) (letters_in b) (few g)))
