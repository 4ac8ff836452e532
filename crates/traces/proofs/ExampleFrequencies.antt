-- The list of `Example` as far as CAC, and what the claims about frequencies say of it: C stands twice, and there are four repeats by place, C, A, C and CAC, summed either way.
use Prim.Native.Nat.{ℕ}
use mathlib.Core.Path.{◌≡◌, refl, sym, ap, ◌∙◌, subst}
use mathlib.Core.List.{[], ◌∷◌}
use mathlib.Core.Bool.{false}
use Rattle.palindromes.specs.Word.{Word, same_word, keep, distinct, mismatch_from, is_empty}
use Rattle.palindromes.specs.Palindrome.{mirror, first_mismatch, is_symmetric, is_palindrome}
use Rattle.palindromes.specs.Reading.{as_plain, reading_number, rule_in}
use Rattle.palindromes.specs.Place.{Stands, starts_with, places_from, places, frequency}
use Rattle.palindromes.specs.Record.{prefixes, suffixes, suffixes_of_each, stretches, palindromes}
use Rattle.palindromes.specs.Occurrences.{sum, occurrences_by_row}
use Rattle.palindromes.specs.Refusal.{the_frequency, the_occurrences, ask}
use Rattle.outcome.specs.Reply.{accepted, packed}
use Rattle.outcome.specs.Wide.{by_rows_in, by_ends_in}
use Rattle.outcome.specs.Outcome.{Lent}
use Rattle.outcome.specs.Promise.{Promise}
use Rattle.traces.specs.Run.{store_after, letters_after, row_after}
use Rattle.traces.specs.Claims.{Replies}
use Rattle.traces.specs.Frequencies.{Frequencies}
use Rattle.traces.proofs.Frequencies.{frequencies-after}
use Rattle.traces.proofs.Example.{sevens, all-bytes, opened, promise, answers-zero, start, with-CAC, run-to-CAC, in-CAC, plain-CAC, letter}

abbrev end : Word
end = store_after start with-CAC

abbrev row_now : Word → ℕ
row_now w = row_after 0 3 with-CAC w

its-frequencies : Frequencies 0 (letters_after 3 with-CAC) row_now end
unfolding reading_number
its-frequencies =
    subst (λ (m : ℕ). Frequencies m (letters_after 3 with-CAC) row_now end) plain-CAC
    (frequencies-after as_plain 3 sevens all-bytes (packed (opened as_plain).reply) start (promise as_plain) (answers-zero as_plain) run-to-CAC)

C-stands : Stands (67 ∷ []) (letters_after 3 with-CAC)
C-stands = record { before = []; after = 65 ∷ 67 ∷ []; whole = sym in-CAC }

two : frequency (67 ∷ []) (letters_after 3 with-CAC) ≡ 2
unfolding frequency places places_from starts_with
two = rw in-CAC refl

pub C-twice : Replies (the_frequency (row_now (67 ∷ []))) end (accepted false 0 2 0)
C-twice = subst (λ (n : ℕ). Replies (the_frequency (row_now (67 ∷ []))) end (accepted false 0 n 0)) two (its-frequencies.each (67 ∷ []) (letter 67) C-stands)

four : occurrences_by_row (rule_in 0) (67 ∷ 65 ∷ 67 ∷ []) ≡ 4
unfolding occurrences_by_row palindromes stretches prefixes suffixes_of_each suffixes keep distinct same_word is_palindrome is_symmetric first_mismatch mismatch_from mirror is_empty rule_in frequency places places_from starts_with sum
four = refl

pub four-either-way : (l : Lent) (a : ℕ) (b' : Word) (l' : Lent) → Promise (ask the_occurrences) end l a b' l' → (by_rows_in a ≡ 4) × (by_ends_in a ≡ 4)
four-either-way l a b' l' p =
    let s = its-frequencies.sums l a b' l' p in
    let e = s.by_rows ∙ ap (occurrences_by_row (rule_in 0)) in-CAC ∙ four in
    (e, sym s.equal ∙ e)
