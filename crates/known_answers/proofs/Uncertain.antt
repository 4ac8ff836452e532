-- The two lengths of every known text are those of the definitions, computed for the whole table at once: `known-lengths`. And what is no code is none:
-- `known-no-codes`. Assumes nothing.
use mathlib.Core.Path.{◌≡◌, refl}
use mathlib.Core.Bool.{false}
use mathlib.Core.List.{[], ◌∷◌, map, flat_map}
use Rattle.palindromes.specs.Word.{is_empty, mismatch_from, keep}
use Rattle.palindromes.specs.Palindrome.{mirror, first_mismatch, is_symmetric, is_palindrome}
use Rattle.palindromes.specs.Record.{prefixes, suffixes, suffixes_of_each, stretches, greatest}
use Rattle.ambiguity.specs.Code.{codes, bases_in, bases_of, is_code}
use Rattle.ambiguity.specs.Choice.{choices}
use Rattle.ambiguity.specs.Longest.{of_some, of_every, is_mirror_for_some, is_mirror_for_every, longest_passing, longest_for_some, longest_for_every}
use Rattle.known_answers.specs.Uncertain.{KnownLengths, texts, no_codes}

pub known-lengths : map (λ (x : KnownLengths). longest_for_some x.text ∷ longest_for_every x.text ∷ []) texts
    ≡ map (λ (x : KnownLengths). x.some ∷ x.every ∷ []) texts
unfolding texts longest_for_some longest_for_every longest_passing is_mirror_for_some is_mirror_for_every of_some of_every choices flat_map bases_of bases_in codes
    prefixes suffixes suffixes_of_each stretches greatest keep is_palindrome is_symmetric first_mismatch mirror mismatch_from is_empty
known-lengths = refl

pub known-no-codes : map is_code no_codes ≡ map (λ x. false) no_codes
unfolding no_codes is_code bases_of bases_in codes is_empty
known-no-codes = refl
