-- DEFINITIONS. The bytes after an accepted addition, and what it answers. Nothing here is proved.
use Rattle.std.specs.Prelude.{ℕ, ◌+◌, Bool, cond, not, List, [], ◌∷◌, ◌++◌, eqb, length}
use Rattle.std.proofs.lemmas.List.Edits.{sets}
use Rattle.palindromes.specs.Word.{Word}
use Rattle.palindromes.specs.Place.{stands}
use Rattle.palindromes.specs.Record.{count_of_length, longest_length}
use Rattle.palindromes.specs.End.{End, other, at_right, added, letter_at, longest_at}
use Rattle.palindromes.specs.Node.{spelt, length_of, link_of, inner_of}
use Rattle.store.specs.Layout.{capacity_in, size_in, count_in, end_cell, end_row, edge_cell, letters_at, letters_in}
use Rattle.store.specs.Good.{rule_of}
use Rattle.store.specs.Writes.{Write, write, writes, row_writes, carried_writes}
use Rattle.transitions.specs.Rows.{row_of, free_row}

-- the longest repeat at the call's end, read after the addition
unfoldable pub longest_after : End → ℕ → Word → Word
longest_after e c b = longest_at (rule_of b) e (added e c (letters_in b))

-- 01 "makes at most one new repeat": whether it stood nowhere before
unfoldable pub brings_in : End → ℕ → Word → Bool
brings_in e c b = not (stands (longest_after e c b) (letters_in b))

-- the row of the longest repeat at that end after the addition
unfoldable pub row_after : End → ℕ → Word → ℕ
row_after e c b = cond (brings_in e c b) (free_row b) (row_of b (spelt (longest_after e c b)))

-- a row for v: its length, link, inner row and outer letter, the edge of its inner row, and the count
unfoldable pub hang_writes : Word → Word → List Write
hang_writes b v =
    row_writes (free_row b) (length_of (spelt v)) (row_of b (link_of (rule_of b) (spelt v))) (row_of b (inner_of (spelt v))) (letter_at at_right v)
    ++ (write (row_of b (inner_of (spelt v))) (edge_cell (letter_at at_right v)) (free_row b) ∷ write 0 10 (count_in b + 1) ∷ [])

-- the number of letters, and the rows of both ends: the other end's longest changes only to a repeat that is the whole record
unfoldable pub settle_writes : End → Word → Word → ℕ → List Write
settle_writes e b v q =
    write 0 9 (size_in b + 1)
    ∷ write 1 (end_cell e) q
    ∷ write 1 (end_cell (other e)) (cond (eqb (length v) (size_in b + 1)) q (end_row b (other e)))
    ∷ []

-- 02 (ii) "true after every accepted store call": how many repeats then have the new one's length, and the largest length
unfoldable pub gain_writes : End → ℕ → Word → List Write
gain_writes e c b =
    carried_writes (length (longest_after e c b)) (count_of_length (rule_of b) (length (longest_after e c b)) (added e c (letters_in b)))
    (longest_length (rule_of b) (added e c (letters_in b)))

unfoldable pub addition_writes : End → ℕ → Word → List Write
addition_writes e c b = cond (brings_in e c b) (hang_writes b (longest_after e c b) ++ gain_writes e c b) [] ++ settle_writes e b (longest_after e c b) (row_after e c b)

-- the store after the addition
unfoldable pub after_addition : End → ℕ → Word → Word
after_addition e c b = writes (sets b (letters_at (capacity_in b)) (added e c (letters_in b))) (addition_writes e c b)
