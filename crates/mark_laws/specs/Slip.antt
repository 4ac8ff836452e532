-- DEFINITIONS. The record's own list with a slip in one line: left out, written twice, or with other digits for one of its two numbers. Nothing here
-- is proved.
use Rattle.std.specs.Prelude.{ℕ, ◌+◌, ◌≡◌, true, List, [], ◌∷◌, ◌++◌, length}
use Rattle.palindromes.specs.Word.{Word}
use Rattle.palindromes.specs.Place.{first_place}
use Rattle.palindromes.specs.Record.{palindromes}
use Rattle.palindromes.specs.Bed.{decimal, bed_lines}
use Rattle.palindromes.specs.Sheet.{all_digits}

-- a line whose two last fields are these
abbrev pub field_line : (name start end : Word) → Word
field_line name start end = name ++ (9 ∷ start) ++ (9 ∷ end) ++ (10 ∷ [])

-- the start and the end of a repeat's line in the list, as digits
abbrev pub start_of : Word → Word → Word
start_of s p = decimal (first_place p s)

abbrev pub end_of : Word → Word → Word
end_of s p = decimal (first_place p s + length p)

-- a slip in the line of p, which stands in the list below the lines of `above` and above those of `below`
pub data Slip (σ : ℕ → ℕ) (name s sheet : Word) : Type 0 where
  line-dropped : (above : List Word) (p : Word) (below : List Word) → palindromes σ s ≡ above ++ p ∷ below → sheet ≡ bed_lines name s (above ++ below)
      → Slip σ name s sheet
  line-doubled : (above : List Word) (p : Word) (below : List Word) → palindromes σ s ≡ above ++ p ∷ below
      → sheet ≡ bed_lines name s (above ++ p ∷ p ∷ below)
      → Slip σ name s sheet
  other-start : (above : List Word) (p : Word) (below : List Word) → palindromes σ s ≡ above ++ p ∷ below → (digits : Word)
      → all_digits digits ≡ true
      → (digits ≡ start_of s p → ⊥)
      → sheet ≡ bed_lines name s above ++ (field_line name digits (end_of s p) ++ bed_lines name s below)
      → Slip σ name s sheet
  other-end : (above : List Word) (p : Word) (below : List Word) → palindromes σ s ≡ above ++ p ∷ below → (digits : Word) → all_digits digits ≡ true
      → (digits ≡ end_of s p → ⊥)
      → sheet ≡ bed_lines name s above ++ (field_line name (start_of s p) digits ++ bed_lines name s below)
      → Slip σ name s sheet
