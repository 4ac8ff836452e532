-- DEFINITIONS. The number of all mirror repeats of a record counted by place, worked out in two ways: 02 (iii). How often one of them stands is `frequency` of `Place`. Nothing here is proved.
use Rattle.std.specs.Prelude.{ℕ, zero, ◌+◌, List, [], ◌∷◌, map, length}
use Rattle.palindromes.specs.Word.{Word}
use Rattle.palindromes.specs.Place.{frequency}
use Rattle.palindromes.specs.Record.{prefixes, palindromes, suffix_palindromes}

-- the numbers of a list, added up
unfoldable pub sum : List ℕ → ℕ
sum [] = zero
sum (k ∷ ks) = k + sum ks

-- 02 (iii) "summed over the rows": a row for each repeat, and for each the number of places where it stands; 001 section 2.4 "occ"
unfoldable pub occurrences_by_row : (ℕ → ℕ) → Word → ℕ
occurrences_by_row σ s = sum (map (λ p. frequency p s) (palindromes σ s))

-- 02 (iii) "summed over the right ends of the record, counting at each the repeats that end there": each non-empty prefix has a right end of its own; 001 proposition 2.10 "the number of palindromes ending in position j"
unfoldable pub occurrences_by_end : (ℕ → ℕ) → Word → ℕ
occurrences_by_end σ s = sum (map (λ p. length (suffix_palindromes σ p)) (prefixes s))
