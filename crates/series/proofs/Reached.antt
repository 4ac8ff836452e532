-- The bound of `series-bound-own` is exact: the palindromes that begin the Fibonacci word, of 3, 6, 11 and 19 letters, have as many series as it
-- allows. And the steps of two words, counted from the definitions. Assumes nothing.
use Prim.Native.Nat.{◌+◌}
use mathlib.Core.Path.{◌≡◌, refl}
use mathlib.Core.List.{[], ◌∷◌}
use lib.ListN.{length}
use Rattle.palindromes.specs.Word.{Word, is_empty, mismatch_from, keep}
use Rattle.palindromes.specs.Palindrome.{plain, mirror, first_mismatch, is_symmetric, is_palindrome}
use Rattle.palindromes.specs.Occurrences.{sum}
use Rattle.palindromes.specs.Record.{prefixes, suffixes}
use Rattle.series.specs.Series.{differences, runs, series, series_steps, fib}

abbrev Reaches : Word → Type 0
Reaches s = fib (series plain s + 3) ≡ length s + 2

pub fibonacci : Reaches (65 ∷ 67 ∷ 65 ∷ []) × Reaches (65 ∷ 67 ∷ 65 ∷ 65 ∷ 67 ∷ 65 ∷ [])
    × Reaches (65 ∷ 67 ∷ 65 ∷ 65 ∷ 67 ∷ 65 ∷ 67 ∷ 65 ∷ 65 ∷ 67 ∷ 65 ∷ [])
    × Reaches (65 ∷ 67 ∷ 65 ∷ 65 ∷ 67 ∷ 65 ∷ 67 ∷ 65 ∷ 65 ∷ 67 ∷ 65 ∷ 65 ∷ 67 ∷ 65 ∷ 67 ∷ 65 ∷ 65 ∷ 67 ∷ 65 ∷ [])
unfolding is_empty mismatch_from keep mirror first_mismatch is_symmetric is_palindrome suffixes differences runs series fib
fibonacci = (refl, refl, refl, refl)

-- one letter six times has one series at each right end, and ACAACACAACA has 23 at its eleven
pub steps : (series_steps plain (65 ∷ 65 ∷ 65 ∷ 65 ∷ 65 ∷ 65 ∷ []) ≡ 6)
    × (series_steps plain (65 ∷ 67 ∷ 65 ∷ 65 ∷ 67 ∷ 65 ∷ 67 ∷ 65 ∷ 65 ∷ 67 ∷ 65 ∷ []) ≡ 23)
unfolding prefixes sum series_steps is_empty mismatch_from keep mirror first_mismatch is_symmetric is_palindrome suffixes differences runs series
steps = (refl, refl)
