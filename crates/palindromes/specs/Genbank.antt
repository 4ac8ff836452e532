-- DEFINITIONS. A record printed as in the GenBank flat file, from the line ORIGIN to the line //: 02 (iv). The page is made of the letters alone. Nothing here is proved.
use Rattle.std.specs.Prelude.{ℕ, zero, suc, ◌+◌, ◌-◌, cond, ◌&&◌, List, [], ◌∷◌, ◌++◌, map, leb, length, replicate, take, drop}
use Rattle.palindromes.specs.Word.{Word}
use Rattle.palindromes.specs.Bed.{decimal}

-- "in lower case": the small letter of an ASCII capital, and every other byte itself
unfoldable pub lower : ℕ → ℕ
lower b = cond (leb 65 b && leb b 90) (b + 32) b

-- the word cut from the left into words of `size` letters, the last of those that are left. The second number bounds how many there are
unfoldable pub cut_up_to : (size : ℕ) → ℕ → Word → List Word
cut_up_to size zero w = []
cut_up_to size (suc more) [] = []
cut_up_to size (suc more) (x ∷ w) = take size (x ∷ w) ∷ cut_up_to size more (drop size (x ∷ w))

-- as many as there are letters are always enough
unfoldable pub cut : (size : ℕ) → Word → List Word
cut size w = cut_up_to size (length w) w

-- "groups of ten letters, each after one blank, in lower case"
unfoldable pub groups : List Word → Word
groups [] = []
groups (g ∷ gs) = (32 ∷ map lower g) ++ groups gs

-- blanks in front of a word fill its columns; a word with more bytes than columns stands as it is
unfoldable pub right_justified : (columns : ℕ) → Word → Word
right_justified columns w = replicate (columns - length w) 32 ++ w

-- "a line starts with the place of its first letter, counted from 1, right-justified in nine columns"; without its LF
unfoldable pub origin_line : (place : ℕ) → Word → Word
origin_line place w = right_justified 9 (decimal place) ++ groups (cut 10 w)

-- "sixty letters a line", each line "ended by LF"
unfoldable pub origin_lines : (place : ℕ) → List Word → Word
origin_lines place [] = []
origin_lines place (w ∷ ws) = origin_line place w ++ (10 ∷ origin_lines (place + 60) ws)

-- the lines ORIGIN and //, each with its LF
unfoldable pub origin_head : Word
origin_head = 79 ∷ 82 ∷ 73 ∷ 71 ∷ 73 ∷ 78 ∷ 10 ∷ []

unfoldable pub origin_end : Word
origin_end = 47 ∷ 47 ∷ 10 ∷ []

-- the page: "a line `ORIGIN`, then sixty letters a line, then a line `//`"
unfoldable pub genbank : Word → Word
genbank s = origin_head ++ origin_lines 1 (cut 60 s) ++ origin_end
