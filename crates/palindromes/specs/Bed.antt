-- DEFINITIONS. Identifiers, decimal digits and the list of a record's palindromes as BED lines. Nothing here is proved.
use Rattle.std.specs.Prelude.{ℕ, zero, suc, ◌+◌, ◌/◌, ◌%◌, Bool, true, false, ◌&&◌, ◌||◌, List, [], ◌∷◌, ◌++◌, leb, ltb, eqb, length}
use Rattle.palindromes.specs.Word.{Word}
use Rattle.palindromes.specs.Place.{first_place}
use Rattle.palindromes.specs.Record.{palindromes}

-- 01 "ASCII letters, digits or underscores"
unfoldable pub is_identifier_byte : ℕ → Bool
is_identifier_byte b = (leb 65 b && leb b 90) || (leb 97 b && leb b 122) || (leb 48 b && leb b 57) || eqb b 95

unfoldable pub all_identifier_bytes : Word → Bool
all_identifier_bytes [] = true
all_identifier_bytes (b ∷ w) = is_identifier_byte b && all_identifier_bytes w

-- 01 "identifier": 1 to 32 such bytes
unfoldable pub is_identifier : Word → Bool
is_identifier w = leb 1 (length w) && leb (length w) 32 && all_identifier_bytes w

-- the digits of n in front of a tail. The first argument bounds how many digits are written: n + 1 is always enough
unfoldable pub digits_before : ℕ → ℕ → Word → Word
digits_before zero n tail = tail
digits_before (suc more) n tail = elim (ltb n 10) [ true ↦ (48 + n) ∷ tail | false ↦ digits_before more (n / 10) ((48 + n % 10) ∷ tail) ]

-- 01 "decimal digits without leading zeros; a start of nought is the digit 0"
unfoldable pub decimal : ℕ → Word
decimal n = digits_before (suc n) n []

-- 01 "identifier, tab, start, tab, end, LF"; GA4GH BED, the three mandatory fields
unfoldable pub bed_line : (identifier : Word) (start end : ℕ) → Word
bed_line identifier start end = identifier ++ (9 ∷ decimal start) ++ (9 ∷ decimal end) ++ (10 ∷ [])

-- a line for each word of the list, at its first place in the record
unfoldable pub bed_lines : Word → Word → List Word → Word
bed_lines identifier s [] = []
bed_lines identifier s (p ∷ ps) = bed_line identifier (first_place p s) (first_place p s + length p) ++ bed_lines identifier s ps

-- 01 "list": for each repeat its first place, ordered by end
unfoldable pub listing : (ℕ → ℕ) → Word → Word → Word
listing σ identifier s = bed_lines identifier s (palindromes σ s)
