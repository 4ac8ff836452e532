-- DEFINITIONS. A sheet as bytes: 02 (xi) "BED lines of three fields, made by hand or by some other program". Nothing here is proved.
use Rattle.std.specs.Prelude.{ℕ, Bool, true, false, cond, ◌&&◌, not, List, [], ◌∷◌, leb, eqb, length}
use Rattle.std.proofs.Math.Option.{Option, none, some}
use Rattle.palindromes.specs.Word.{Word}
use Rattle.palindromes.specs.Digits.{value}

-- a byte in front of the first part
unfoldable pub in_first : ℕ → List Word → List Word
in_first b [] = (b ∷ []) ∷ []
in_first b (w ∷ ws) = (b ∷ w) ∷ ws

-- the parts of a text between the bytes c: one more than there are such bytes
unfoldable pub split : (c : ℕ) → Word → List Word
split c [] = [] ∷ []
split c (b ∷ t) = cond (eqb b c) ([] ∷ split c t) (in_first b (split c t))

unfoldable pub all_digits : Word → Bool
all_digits [] = true
all_digits (b ∷ w) = leb 48 b && leb b 57 && all_digits w

-- a digit 0 with a digit behind it
unfoldable pub needless_zero : Word → Bool
needless_zero [] = false
needless_zero (b ∷ []) = false
needless_zero (b ∷ d ∷ w) = eqb b 48

-- "one to four digits without a needless leading zero"
unfoldable pub is_number : Word → Bool
is_number w = leb 1 (length w) && leb (length w) 4 && all_digits w && not (needless_zero w)

-- a line: its identifier, which may be any bytes but tab and LF, and none, and its two numbers
pub record Line : Type 0 where
  pub name : Word
  pub start : ℕ
  pub end : ℕ

-- "exactly three tab-separated fields", of which the second and the third are numbers
unfoldable pub line_of : List Word → Option Line
line_of (name ∷ start ∷ end ∷ []) =
    cond (is_number start && is_number end) (some (record { name = name; start = value start; end = value end })) none
line_of [] = none
line_of (name ∷ []) = none
line_of (name ∷ start ∷ []) = none
line_of (name ∷ start ∷ end ∷ more ∷ fields) = none

unfoldable pub with_line : Option Line → Option (List Line) → Option (List Line)
with_line none later = none
with_line (some l) none = none
with_line (some l) (some ls) = some (l ∷ ls)

-- the lines of the parts between the LFs of a sheet. Each line is "ended by LF", so the last part is empty and is no line
unfoldable pub lines_of : List Word → Option (List Line)
lines_of [] = some []
lines_of ([] ∷ []) = some []
lines_of ((b ∷ w) ∷ []) = none
lines_of (w ∷ v ∷ ws) = with_line (line_of (split 9 w)) (lines_of (v ∷ ws))

-- the lines of a sheet, and `none` where it gets 13
unfoldable pub sheet_lines : Word → Option (List Line)
sheet_lines sheet = lines_of (split 10 sheet)

-- row 13 of the table of numbers
unfoldable pub is_sheet : Option (List Line) → Bool
is_sheet none = false
is_sheet (some ls) = true

-- its lines, none where it is no sheet
unfoldable pub lines_in : Option (List Line) → List Line
lines_in none = []
lines_in (some ls) = ls
