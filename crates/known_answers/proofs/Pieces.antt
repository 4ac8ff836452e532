-- Every known number of pieces, their ends and these in bytes are those of the letters, computed for the whole table at once: `known-pieces`,
-- `known-ends`, `known-end-bytes`; and the refusals: `known-refusals`. Assumes nothing.
use mathlib.Core.Path.{◌≡◌, refl}
use mathlib.Core.List.{map}
use Rattle.palindromes.specs.Word.{is_empty, mismatch_from, keep}
use Rattle.palindromes.specs.Palindrome.{plain, mirror, first_mismatch, is_symmetric, is_palindrome}
use Rattle.palindromes.specs.Reading.{reading_number, rule_in}
use Rattle.palindromes.specs.Record.{suffixes}
use Rattle.palindromes.specs.Interval.{two_bytes}
use Rattle.palindromes.specs.Factorization.{starts, better, pick, choice, last_start, lengths_from, palindromic_lengths, ends_to, palindromic_length}
use Rattle.palindromes.specs.Factorization.{factor_ends, end_bytes}
use Rattle.palindromes.specs.Refusal.{the_pieces, ask, fault, first_fault, question_faults, faults, refusal}
use Rattle.known_answers.specs.Pieces.{KnownPieces, cuttings, KnownRefusal, view_with, refusals}

pub known-pieces : map (λ (x : KnownPieces). palindromic_length plain x.letters) cuttings ≡ map (λ (x : KnownPieces). x.number) cuttings
unfolding cuttings palindromic_length palindromic_lengths lengths_from last_start choice pick better starts suffixes keep is_palindrome is_symmetric
    first_mismatch mismatch_from mirror is_empty
known-pieces = refl

pub known-ends : map (λ (x : KnownPieces). factor_ends plain x.letters) cuttings ≡ map (λ (x : KnownPieces). x.ends) cuttings
unfolding cuttings factor_ends ends_to palindromic_lengths lengths_from last_start choice pick better starts suffixes keep is_palindrome is_symmetric
    first_mismatch mismatch_from mirror is_empty
known-ends = refl

pub known-end-bytes : map (λ (x : KnownPieces). end_bytes x.ends) cuttings ≡ map (λ (x : KnownPieces). x.bytes) cuttings
unfolding cuttings end_bytes two_bytes
known-end-bytes = refl

pub known-refusals : map (λ (x : KnownRefusal). refusal (rule_in x.reading) (view_with x) (ask the_pieces)) refusals
    ≡ map (λ (x : KnownRefusal). x.refused) refusals
unfolding refusals view_with refusal faults question_faults first_fault fault reading_number rule_in end_bytes two_bytes factor_ends ends_to palindromic_lengths
    lengths_from last_start choice pick better starts suffixes keep is_palindrome is_symmetric first_mismatch mismatch_from mirror is_empty
known-refusals = refl
