-- DEFINITIONS. What the letters of a record decide: its palindromes, their number, the longest of them. Nothing here is proved.
use Rattle.std.specs.Prelude.{ℕ, zero, min, max, cond, List, [], ◌∷◌, ◌++◌, map, eqb, length}
use Rattle.palindromes.specs.Word.{Word, keep, distinct}
use Rattle.palindromes.specs.Palindrome.{is_symmetric, is_palindrome}
use Rattle.palindromes.specs.Place.{first_place}

-- the non-empty prefixes, from the shortest to the longest; 001 section 1.1
unfoldable pub prefixes : Word → List Word
prefixes [] = []
prefixes (x ∷ s) = (x ∷ []) ∷ map (λ p. x ∷ p) (prefixes s)

-- the non-empty suffixes, from the longest to the shortest; 001 section 1.1
unfoldable pub suffixes : Word → List Word
suffixes [] = []
suffixes (x ∷ s) = (x ∷ s) ∷ suffixes s

unfoldable pub suffixes_of_each : List Word → List Word
suffixes_of_each [] = []
suffixes_of_each (p ∷ ps) = suffixes p ++ suffixes_of_each ps

-- every non-empty stretch of the record, place by place, ordered by end
unfoldable pub stretches : Word → List Word
stretches s = suffixes_of_each (prefixes s)

-- the mirror repeats of the record, each once, in the order of their first ends: 01 "two equal stretches are one repeat" and "ordered by end"
unfoldable pub palindromes : (ℕ → ℕ) → Word → List Word
palindromes σ s = distinct (keep (is_palindrome σ) (stretches s))

-- the mirror repeats that end the record, from the longest to the shortest; 001 section 2.2 "suffix-palindromes"
abbrev pub suffix_palindromes : (ℕ → ℕ) → Word → List Word
suffix_palindromes σ s = keep (is_palindrome σ) (suffixes s)

-- 01 "number of distinct repeats"; 001 remark 2.2
unfoldable pub count : (ℕ → ℕ) → Word → ℕ
count σ s = length (palindromes σ s)

-- 02 (ii) "how many repeats there are of each length"
unfoldable pub count_of_length : (ℕ → ℕ) → ℕ → Word → ℕ
count_of_length σ k s = length (keep (λ p. eqb (length p) k) (palindromes σ s))

-- the greatest of a list of numbers, 0 where there is none
unfoldable pub greatest : List ℕ → ℕ
greatest [] = zero
greatest (k ∷ ks) = max k (greatest ks)

-- the least of a list of numbers, 0 where there is none
unfoldable pub least : List ℕ → ℕ
least [] = zero
least (k ∷ []) = k
least (k ∷ m ∷ ks) = min k (least (m ∷ ks))

-- 01 "longest repeat: length"; 02 (ii) "the largest length in use"
unfoldable pub longest_length : (ℕ → ℕ) → Word → ℕ
longest_length σ s = greatest (map length (palindromes σ s))

-- 01 "longest repeat: leftmost place": over all repeats of that length
unfoldable pub longest_place : (ℕ → ℕ) → Word → ℕ
longest_place σ s = least (map (λ p. first_place p s) (keep (λ p. eqb (length p) (longest_length σ s)) (palindromes σ s)))

-- the longest suffix that equals its reversal, empty where there is none: 01 "longest repeat at the right end"; 001 section 2.2 "palSuf"
unfoldable pub longest_suffix : (ℕ → ℕ) → Word → Word
longest_suffix σ [] = []
longest_suffix σ (x ∷ s) = cond (is_symmetric σ (x ∷ s)) (x ∷ s) (longest_suffix σ s)

-- the last word of the list that equals its reversal, and the given one where there is none
unfoldable pub last_symmetric : (ℕ → ℕ) → Word → List Word → Word
last_symmetric σ found [] = found
last_symmetric σ found (w ∷ ws) = last_symmetric σ (cond (is_symmetric σ w) w found) ws

-- the longest prefix that equals its reversal, empty where there is none: 01 "longest repeat at the left end"; 000 section 2.2
unfoldable pub longest_prefix : (ℕ → ℕ) → Word → Word
longest_prefix σ s = last_symmetric σ [] (prefixes s)
