-- The list of a store's palindromes, for the contracts of src/.
use Rattle.std.specs.Prelude.{ℕ, zero, suc, ◌+◌, ◌-◌, cond, ◌&&◌, ltb, length}
use Rattle.palindromes.specs.Word.{Word}
use Rattle.palindromes.specs.Node.{spelt}
use Rattle.palindromes.specs.Bed.{bed_line, listing}
use Rattle.store.specs.Layout.{rank_in, letters_in}
use Rattle.store.specs.Good.{rule_of}
use Rattle.transitions.specs.Rows.{row_of}
use Rattle.walk.specs.Replay.{ending_in, new_at}

-- the list of the palindromes of the record, each at its first place, with this name on every line
abbrev pub listing_in : Word → Word → Word
listing_in b name = listing (rule_of b) name (letters_in b)

-- the line of the palindrome that ends the first k letters
abbrev pub line_in : Word → Word → ℕ → Word
line_in b name k = bed_line name (k - length (ending_in b k)) k

-- that palindrome's rank
abbrev pub rank_at : Word → ℕ → ℕ
rank_at b k = rank_in b (row_of b (spelt (ending_in b k)))

-- how many bytes the lines have that the first k letters bring in, of palindromes with ranks below t
unfoldable pub length_below : Word → Word → ℕ → ℕ → ℕ
length_below b name t zero = zero
length_below b name t (suc k) = length_below b name t k + cond (new_at b k && ltb (rank_at b (k + 1)) t) (length (line_in b name (k + 1))) 0
