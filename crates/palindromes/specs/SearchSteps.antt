-- DEFINITIONS. How much searching an addition costs, by the letters alone: 02 (xiii). Nothing here is proved.
use Rattle.std.specs.Prelude.{ℕ, zero, suc, Bool, true, cond, List, [], ◌∷◌, ◌++◌, map, eqb}
use Rattle.palindromes.specs.Word.{Word, member}
use Rattle.palindromes.specs.Palindrome.{plain}
use Rattle.palindromes.specs.Reading.{as_plain, reading_number}
use Rattle.palindromes.specs.Record.{suffixes, suffix_palindromes}
use Rattle.palindromes.specs.End.{End, at_left, at_right}
use Rattle.palindromes.specs.Node.{Node, imaginary, spelt}

-- 02 (xiii) "line up the repeats that end the record, longest first, then the empty and the imaginary string"; 001 proposition 2.5 "the suffix-palindromes of T in the order of decreasing length"
unfoldable pub candidates : (ℕ → ℕ) → Word → List Node
candidates σ s = map spelt (suffix_palindromes σ s) ++ (spelt [] ∷ imaginary ∷ [])

-- "with the new letter just to its left", its partner where the rule is another: the record ends with both; "the imaginary one always serves"
unfoldable pub serves : (ℕ → ℕ) → ℕ → Word → Node → Bool
serves σ c s imaginary = true
serves σ c s (spelt w) = member (σ c ∷ w) (suffixes s)

-- how many nodes of the list come before the first that passes the test
unfoldable pub passed_before : (Node → Bool) → List Node → ℕ
passed_before p [] = zero
passed_before p (v ∷ vs) = cond (p v) zero (suc (passed_before p vs))

-- "those passed before the first one with the new letter just to its left", of a record s that takes c at its right end
unfoldable pub search_steps : (ℕ → ℕ) → ℕ → Word → ℕ
search_steps σ c s = passed_before (serves σ c s) (candidates σ s)

-- "the adding call reports that number"; "an addition at the left, or to an inverted record, reports 0". The first number is that of the reading
unfoldable pub reported_steps : ℕ → End → ℕ → Word → ℕ
reported_steps m at_left c s = zero
reported_steps m at_right c s = cond (eqb m (reading_number as_plain)) (search_steps plain c s) zero
