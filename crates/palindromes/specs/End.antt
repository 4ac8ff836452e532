-- DEFINITIONS. The two ends of a record, and what a change at an end brings in and takes out. Nothing here is proved.
use Rattle.std.specs.Prelude.{ℕ, zero, not, List, [], ◌∷◌, ◌++◌}
use Rattle.palindromes.specs.Word.{Word, member, keep}
use Rattle.palindromes.specs.Record.{palindromes, longest_suffix, longest_prefix}

-- 01 "left or right"; 000 section 3 "front" and "back"
pub data End : Type 0 where
  at_left : End
  at_right : End

-- the end across
abbrev pub other : End → End
other at_left = at_right
other at_right = at_left

-- the record after an accepted addition: 01 "the letter then joins that end"
unfoldable pub added : End → ℕ → Word → Word
added at_left c s = c ∷ s
added at_right c s = s ++ (c ∷ [])

-- all but the last letter
unfoldable pub without_last : Word → Word
without_last [] = []
without_last (x ∷ []) = []
without_last (x ∷ y ∷ s) = x ∷ without_last (y ∷ s)

-- all but the first letter
unfoldable pub without_first : Word → Word
without_first [] = []
without_first (x ∷ s) = s

-- the record after an accepted removal: 01 "the one at that end then goes"
unfoldable pub removed : End → Word → Word
removed at_left s = without_first s
removed at_right s = without_last s

-- the letter at an end, 0 where the record is empty: what a removal answers
unfoldable pub letter_at : End → Word → ℕ
letter_at at_left [] = zero
letter_at at_left (x ∷ s) = x
letter_at at_right [] = zero
letter_at at_right (x ∷ []) = x
letter_at at_right (x ∷ y ∷ s) = letter_at at_right (y ∷ s)

-- 01 "longest repeat at the left end, at the right end", empty where there is none
unfoldable pub longest_at : (ℕ → ℕ) → End → Word → Word
longest_at σ at_left s = longest_prefix σ s
longest_at σ at_right s = longest_suffix σ s

-- the words of the second list that are not in the first: with the repeats before a call and after it, what the call brings in, and with the two exchanged what it
-- takes out (01 "Lists of calls")
abbrev pub not_among : List Word → List Word → List Word
not_among old new = keep (λ p. not (member p old)) new

-- the same by the letters before and after, where the reading stays
unfoldable pub new_in : (ℕ → ℕ) → Word → Word → List Word
new_in σ s t = not_among (palindromes σ s) (palindromes σ t)
