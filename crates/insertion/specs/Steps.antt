-- What the contracts say of a palindrome that is inserted: the writes that hang its row into the table.
use Rattle.std.specs.Prelude.{ℕ, ◌+◌, List, [], ◌∷◌, ◌++◌}
use Rattle.store.specs.Layout.{edge_cell}
use Rattle.store.specs.Writes.{Write, write, row_writes}
use Rattle.store.specs.declared.rows.Row.{Row}

-- row r as it is to be, the edge of its inner row, and the count
abbrev pub row_hung : Row → (r count : ℕ) → List Write
row_hung row r count =
    row_writes r row.length row.link row.inner row.outer ++ (write row.inner (edge_cell row.outer) r ∷ write 0 10 (count + 1) ∷ [])
