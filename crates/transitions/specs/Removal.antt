-- DEFINITIONS. The bytes after an accepted removal, and what it answers. Nothing here is proved.
use Rattle.std.specs.Prelude.{ℕ, ◌+◌, ◌-◌, Bool, cond, not, List, [], ◌∷◌, ◌++◌, eqb, negsuc, length}
use Rattle.std.proofs.lemmas.List.Edits.{sets}
use Rattle.palindromes.specs.Word.{Word}
use Rattle.palindromes.specs.Place.{stands}
use Rattle.palindromes.specs.Record.{count_of_length, longest_length}
use Rattle.palindromes.specs.End.{End, other, removed, longest_at}
use Rattle.palindromes.specs.Node.{spelt}
use Rattle.store.specs.Layout.{capacity_in, size_in, count_in, end_cell, end_row, link_in, inner_in, outer_in, edge_cell, order_in, rank_in, letters_at, letters_in}
use Rattle.store.specs.Good.{rule_of}
use Rattle.store.specs.Writes.{Write, write, writes, row_writes, carried_writes}
use Rattle.transitions.specs.Rows.{row_of}

-- the longest repeat at the call's end, read before the removal
unfoldable pub longest_before : End → Word → Word
longest_before e b = longest_at (rule_of b) e (letters_in b)

-- 01 "removal is the reverse": whether it stands nowhere after
unfoldable pub takes_out : End → Word → Bool
takes_out e b = not (stands (longest_before e b) (removed e (letters_in b)))

-- row q is cleared, with the edge that leads to it, and changes places with the last row in use
unfoldable pub drop_writes : Word → ℕ → List Write
drop_writes b q =
    row_writes q (negsuc 0) 0 0 0
    ++ (write (inner_in b q) (edge_cell (outer_in b q)) 0
    ∷ write (rank_in b q + 2) 8 (order_in b (count_in b - 1))
    ∷ write (order_in b (count_in b - 1)) 9 (rank_in b q)
    ∷ write (count_in b - 1 + 2) 8 q
    ∷ write q 9 (count_in b - 1)
    ∷ write 0 10 (count_in b - 1)
    ∷ [])

-- the number of letters, and the rows of both ends: the other end's longest changes only if it was the whole record
unfoldable pub leave_writes : End → Word → List Write
leave_writes e b =
    write 0 9 (size_in b - 1)
    ∷ write 1 (end_cell e) (row_of b (spelt (longest_at (rule_of b) e (removed e (letters_in b)))))
    ∷ write 1 (end_cell (other e)) (cond (eqb (length (longest_before e b)) (size_in b)) (link_in b (end_row b e)) (end_row b (other e)))
    ∷ []

-- 02 (ii) "true after every accepted store call": how many repeats have the length of the one that went, and the largest length
unfoldable pub loss_writes : End → Word → List Write
loss_writes e b =
    carried_writes (length (longest_before e b)) (count_of_length (rule_of b) (length (longest_before e b)) (removed e (letters_in b)))
    (longest_length (rule_of b) (removed e (letters_in b)))

unfoldable pub removal_writes : End → Word → List Write
removal_writes e b = cond (takes_out e b) (drop_writes b (end_row b e) ++ loss_writes e b) [] ++ leave_writes e b

-- the store after the removal: the vacated letter place is zero
unfoldable pub after_removal : End → Word → Word
after_removal e b = writes (sets b (letters_at (capacity_in b)) (removed e (letters_in b) ++ (0 ∷ []))) (removal_writes e b)
