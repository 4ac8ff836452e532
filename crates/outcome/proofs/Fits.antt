-- Every reply fits its bytes: whatever a call answers, nothing of one field runs into the next. A question has its line in `answer-fits`. Rests on the bounds of a
-- good store's letters, rows and lists.
use Prim.Native.Nat.{ℕ, zero, suc, ◌≤◌, ◌<◌}
use native.Mathlib.Omega.{arith}
use mathlib.Core.Path.{◌≡◌, refl, ap}
use mathlib.Core.Bool.{Bool, true, false, cond}
use mathlib.Core.List.{List, [], ◌∷◌, cons-ne-nil}
use lib.Dec.{eqb}
use lib.ListN.{length, get_or, length-append}
use Rattle.palindromes.specs.Word.{Word, is_letter, all_letters, keep, member}
use Rattle.palindromes.specs.Palindrome.{plain}
use Rattle.palindromes.specs.Mismatch.{reported_mismatch}
use Rattle.palindromes.specs.Reading.{Reading, as_plain, reading_number}
use Rattle.palindromes.specs.Place.{frequency}
use Rattle.palindromes.specs.Record.{palindromes, count, least, longest_place}
use Rattle.palindromes.specs.Occurrences.{occurrences_by_row, occurrences_by_end}
use Rattle.palindromes.specs.End.{End, at_left, at_right, letter_at}
use Rattle.palindromes.specs.Node.{Node, imaginary, spelt, length_of, spelling_of}
use Rattle.palindromes.specs.Refusal.{Question, the_length, the_count, the_longest, the_longest_length, the_occurrences, page, the_minimal_unique, the_pieces}
use Rattle.palindromes.specs.Refusal.{the_longest_at, the_letter, the_row, the_frequency, spell, find, list, mark, Call, opening, add, remove, turn, ask}
use Rattle.palindromes.specs.Refusal.{refusal}
use Rattle.palindromes.proofs.Tests.{both_true}
use Rattle.palindromes.proofs.Order.{longest-length-fits, longest-place-is}
use Rattle.palindromes.proofs.Palindromes.{count-length}
use Rattle.palindromes.proofs.Frequency.{frequency-most}
use Rattle.palindromes.proofs.Occurrences.{occurrences-agree, occurrences-limit}
use Rattle.palindromes.proofs.Letters.{letter-byte}
use Rattle.palindromes.specs.SearchSteps.{search_steps, reported_steps}
use Rattle.palindromes.proofs.SearchSteps.{steps-few}
use Rattle.palindromes.proofs.Mismatch.{mismatch-small}
use Rattle.palindromes.proofs.MinimalUniqueList.{minimal-few}
use Rattle.palindromes.proofs.PalindromicLengths.{length_most}
use Rattle.bed.proofs.Listing.{listing-most}
use Rattle.genbank.proofs.Size.{page-most}
use Rattle.eertree.proofs.Rows.{reach_of, row-reach-most, word_row}
use Rattle.store.specs.Layout.{reading_in, used_in, letters_in}
use Rattle.store.specs.Good.{rule_of, node_in, Good}
use Rattle.store.proofs.Sizes.{letters-length}
use Rattle.transitions.specs.Rows.{row_of, free_row}
use Rattle.transitions.specs.Addition.{longest_after, brings_in, row_after}
use Rattle.transitions.specs.Removal.{longest_before, takes_out}
use Rattle.transitions.proofs.Letters.{letter-at-end}
use Rattle.transitions.proofs.Rows.{row-of-small, row_small, free-below, covers}
use Rattle.outcome.specs.Reply.{Fits, accepted, refused_with, answered, twos_complement}
use Rattle.outcome.specs.Wide.{wide_answer}
use Rattle.outcome.specs.Answers.{added_of, added_reply, removed_of, removed_reply, found_of, found_reply, found_answer}
use Rattle.outcome.specs.Outcome.{Lent, view_in, accepted_outcome, changed, refused_outcome, unless_refused, outcome, answer_to}
use Rattle.outcome.proofs.Refusals.{number-other, add-allowed, row-used, spell-used, list-named, frequency-row}

-- ---- letters and places

-- a letter is a byte, and so is what stands where there is none
letter-small : (s : Word) (i : ℕ) → all_letters s ≡ true → get_or s i 0 < 65536
unfolding all_letters
letter-small [] i h = omega arith
letter-small (x ∷ s) zero h = omega (arith, letter-byte x (both_true (is_letter x) (all_letters s) h).0)
letter-small (x ∷ s) (suc i) h = letter-small s i (both_true (is_letter x) (all_letters s) h).1

end-letter : (e : End) (s : Word) → all_letters s ≡ true → letter_at e s < 65536
unfolding letter_at
end-letter at_left [] h = omega arith
end-letter at_right [] h = omega arith
end-letter e (x ∷ s) h = omega (arith, letter-byte (letter_at e (x ∷ s)) (letter-at-end e (x ∷ s) (cons-ne-nil x s) h))

-- the longest repeat begins inside the record
longest-place-fits : (σ : ℕ → ℕ) (s : Word) → longest_place σ s ≤ length s
unfolding longest_place count keep least
longest-place-fits σ s = go (palindromes σ s) refl
  where
    go : (l : List Word) → palindromes σ s ≡ l → longest_place σ s ≤ length s
    go [] e = rw e (omega arith)
    go (w ∷ l) e =
        let p = longest-place-is σ s (omega (arith, ap length e)) in
        omega (arith, p.4, simp length-append at (ap length p.1.whole))

-- an accepted reply whose three numbers are small
fits : (t : Bool) {r m n : ℕ} → r < 65536 → m < 65536 → n < 65536 → Fits (accepted t r m n)
unfolding accepted
fits t p q h = record { number = omega arith; row = p; first = q; second = h }

-- two sums of three bytes
wide_fits : (x y : ℕ) → x < 16777216 → y < 16777216 → Fits (answered (wide_answer x y))
unfolding wide_answer
wide_fits x y h k = fits _ (omega arith) (omega (arith, h)) (omega (arith, k))

module _ {b : Word} (g : Good b) where
  -- the letters are at most 1,024
  pub few : length (letters_in b) ≤ 1024
  few = omega (arith, letters-length g.sized, g.sized.letters-fit, g.sized.at_most)

  -- what a row spells, and its signed length as two bytes
  spelling-small : (r : ℕ) → used_in b r ≡ true → length (spelling_of (node_in b r)) < 65536
  unfolding spelling_of
  spelling-small r u = go (node_in b r) (row-reach-most (covers g) r u)
    where
      go : (v : Node) → reach_of v ≤ suc (length (letters_in b)) → length (spelling_of v) < 65536
      go imaginary h = omega arith
      go (spelt w) h = omega (arith, few)

  length-small : (r : ℕ) → used_in b r ≡ true → twos_complement (length_of (node_in b r)) < 65536
  unfolding twos_complement length_of
  length-small r u = go (node_in b r) (row-reach-most (covers g) r u)
    where
      go : (v : Node) → reach_of v ≤ suc (length (letters_in b)) → twos_complement (length_of v) < 65536
      go imaginary h = omega arith
      go (spelt w) h = omega (arith, few)

  -- how often a row's palindrome stands, which is no more often than there are letters
  pub frequency-small : (r : ℕ) → 2 ≤ r → used_in b r ≡ true → frequency (spelling_of (node_in b r)) (letters_in b) < 65536
  unfolding spelling_of
  frequency-small r h u =
      let d = word_row (covers g) r u h in
      rw d.1 (omega (arith, frequency-most d.0 d.2.non-empty (letters_in b), few))

  -- and both sums of all
  pub few-occurrences : (occurrences_by_row (rule_of b) (letters_in b) < 16777216) × (occurrences_by_end (rule_of b) (letters_in b) < 16777216)
  few-occurrences =
      let n = occurrences-limit (rule_of b) (letters_in b) few in
      (omega (arith, n, occurrences-agree (rule_of b) (letters_in b)), omega (arith, n))

  -- ---- the questions

  pub answer-fits : (q : Question) (l : Lent) → refusal (rule_of b) (view_in b l) (ask q) ≡ 0 → Fits (answered (answer_to q b))
  unfolding answer_to found_answer
  answer-fits the_length l z = fits _ (omega arith) (omega (arith, few)) (omega arith)
  answer-fits the_count l z = fits _ (omega arith) (omega (arith, count-length (rule_of b) (letters_in b), few)) (omega arith)
  answer-fits the_longest l z =
      fits _ (omega arith) (omega (arith, longest-length-fits (rule_of b) (letters_in b), few)) (omega (arith, longest-place-fits (rule_of b) (letters_in b), few))
  answer-fits the_longest_length l z = fits _ (omega arith) (omega (arith, longest-length-fits (rule_of b) (letters_in b), few)) (omega arith)
  answer-fits the_occurrences l z = let n = few-occurrences in wide_fits _ _ n.0 n.1
  answer-fits page l z = fits _ (omega arith) (omega (arith, page-most (letters_in b) few)) (omega arith)
  answer-fits the_minimal_unique l z = fits _ (omega arith) (omega (arith, minimal-few (rule_of b) (letters_in b), few)) (omega arith)
  answer-fits the_pieces l z = fits _ (omega arith) (omega (arith, length_most (rule_of b) (letters_in b), few)) (omega arith)
  answer-fits (the_longest_at e) l z = fits _ (row-of-small g _) (omega arith) (omega arith)
  answer-fits (the_letter i) l z = fits _ (omega arith) (letter-small (letters_in b) i g.letters) (omega arith)
  answer-fits (the_row r) l z = fits _ (row-of-small g _) (length-small r (row-used b l r z)) (row-of-small g _)
  answer-fits (the_frequency r) l z = fits _ (omega arith) (frequency-small r (frequency-row b l r z).0 (frequency-row b l r z).1) (omega arith)
  answer-fits (spell r) l z = fits _ (omega arith) (spelling-small r (spell-used b l r z)) (omega arith)
  answer-fits (find p) l z = go (member p (palindromes (rule_of b) (letters_in b)))
    where
      go : (t : Bool) → Fits (found_reply (found_of t (row_of b (spelt p)) (reported_mismatch (rule_of b) p)))
      go true = fits _ (row-of-small g (spelt p)) (mismatch-small (rule_of b) p) (omega arith)
      go false = fits _ (omega arith) (mismatch-small (rule_of b) p) (omega arith)
  answer-fits (list name) l z =
      fits _ (omega arith) (omega (arith, listing-most (rule_of b) name (letters_in b) (list-named b l name z) (omega (arith, few)), few)) (omega arith)
  answer-fits (mark name sheet) l z = fits _ (omega arith) (omega arith) (omega arith)

  -- ---- the changes

  free-small : (e : End) (c : ℕ) (l : Lent) → refusal (rule_of b) (view_in b l) (add e c) ≡ 0 → free_row b < 65536
  free-small e c l z = row_small g (free_row b) (free-below g (omega (arith, (add-allowed b l e c z).1, letters-length g.sized)))

  -- a search passes few, so what is reported of it is small
  pub reported-small : (e : End) (c : ℕ) → reported_steps (reading_in b) e c (letters_in b) < 65536
  unfolding reported_steps
  reported-small at_left c = omega arith
  reported-small at_right c = go (eqb (reading_in b) (reading_number as_plain))
    where
      go : (t : Bool) → cond t (search_steps plain c (letters_in b)) 0 < 65536
      go true = omega (arith, steps-few plain (λ x. refl) c (letters_in b) refl, few)
      go false = omega arith

  added-fits : (e : End) (c : ℕ) (l : Lent) → refusal (rule_of b) (view_in b l) (add e c) ≡ 0
      → Fits (added_reply (added_of (brings_in e c b) (row_after e c b) (reported_steps (reading_in b) e c (letters_in b))))
  unfolding added_reply row_after
  added-fits e c l z = go (brings_in e c b)
    where
      go : (t : Bool) → Fits (added_reply (added_of t (cond t (free_row b) (row_of b (spelt (longest_after e c b)))) (reported_steps (reading_in b) e c (letters_in b))))
      go true = fits _ (free-small e c l z) (reported-small e c) (omega arith)
      go false = fits _ (omega arith) (reported-small e c) (omega arith)

  removed-fits : (e : End) → Fits (removed_reply (removed_of (takes_out e b) (letter_at e (letters_in b)) (row_of b (spelt (longest_before e b)))))
  unfolding removed_reply
  removed-fits e = go (takes_out e b)
    where
      go : (t : Bool) → Fits (removed_reply (removed_of t (letter_at e (letters_in b)) (row_of b (spelt (longest_before e b)))))
      go true = fits _ (row-of-small g _) (end-letter e (letters_in b) g.letters) (omega arith)
      go false = fits _ (omega arith) (end-letter e (letters_in b) g.letters) (omega arith)

-- ---- every call

refused-fits : (n : ℕ) → n < 256 → Fits (refused_with n)
unfolding refused_with
refused-fits n h = record { number = h; row = omega arith; first = omega arith; second = omega arith }

module _ (b : Word) (l : Lent) where
  accepted-fits : (call : Call) → Good b → refusal (rule_of b) (view_in b l) call ≡ 0 → Fits (accepted_outcome call b l).reply
  unfolding accepted_outcome changed
  accepted-fits (opening way k) g z = fits _ (omega arith) (omega arith) (omega arith)
  accepted-fits (add e c) g z = added-fits g e c l z
  accepted-fits (remove e) g z = removed-fits g e
  accepted-fits (turn way) g z = fits _ (omega arith) (omega arith) (omega arith)
  accepted-fits (ask q) g z = answer-fits g q l z

  by_number : (call : Call) (n : ℕ) → n < 256 → (n ≡ 0 → Fits (accepted_outcome call b l).reply) → Fits (unless_refused n call b l).reply
  unfolding unless_refused refused_outcome
  by_number call zero s h = h refl
  by_number call (suc n) s h = refused-fits (suc n) s

  -- the reply of any call on a good store
  pub reply-fits : (call : Call) → Good b → Fits (outcome call b l).reply
  unfolding outcome
  reply-fits call g = by_number call (refusal (rule_of b) (view_in b l) call) (number-other b l call).0 (accepted-fits call g)

  -- and that of an opening, whatever the bytes
  pub opening-fits : (way : Reading) (k : ℕ) → Fits (outcome (opening way k) b l).reply
  unfolding outcome accepted_outcome changed
  opening-fits way k =
      by_number (opening way k) (refusal (rule_of b) (view_in b l) (opening way k)) (number-other b l (opening way k)).0 (λ z. fits _ (omega arith) (omega arith) (omega arith))
