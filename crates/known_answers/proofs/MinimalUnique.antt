-- Every known list of minimal unique repeats is that of its letters, and so are its bytes, computed for the whole table at once:
-- `known-minimal-unique`, `known_bytes`. Assumes nothing.
use mathlib.Core.Path.{◌≡◌, refl}
use mathlib.Core.List.{map}
use Rattle.palindromes.specs.Word.{is_empty, mismatch_from, keep}
use Rattle.palindromes.specs.Palindrome.{mirror, first_mismatch, is_symmetric, is_palindrome}
use Rattle.palindromes.specs.Reading.{complement}
use Rattle.palindromes.specs.Place.{starts_with, places_from, places, frequency, stands_once}
use Rattle.palindromes.specs.End.{without_first, without_last}
use Rattle.palindromes.specs.Interval.{word_at, numbers_from, intervals_from, intervals, two_bytes, interval_bytes}
use Rattle.palindromes.specs.MinimalUnique.{inner_word, is_repeating, is_minimal_unique, minimal_unique}
use Rattle.known_answers.specs.MinimalUnique.{KnownList, lists}

pub known-minimal-unique : map (λ (x : KnownList). minimal_unique x.rule x.letters) lists ≡ map (λ (x : KnownList). x.listed) lists
unfolding lists minimal_unique keep intervals intervals_from numbers_from is_minimal_unique is_repeating word_at inner_word without_first without_last
    is_palindrome is_symmetric first_mismatch mismatch_from mirror is_empty complement stands_once frequency places places_from starts_with
known-minimal-unique = refl

pub known_bytes : map (λ (x : KnownList). interval_bytes x.listed) lists ≡ map (λ (x : KnownList). x.bytes) lists
unfolding lists interval_bytes two_bytes
known_bytes = refl
