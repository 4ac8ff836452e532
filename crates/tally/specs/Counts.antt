-- What the contracts of src/lib.rt say of a mark sheet as the host lends it.
use Rattle.palindromes.specs.Marks.{Counts}
use Rattle.tally.specs.declared.Tally.{Tally}

-- the four counts that a tally holds
abbrev pub counts_in : Tally → Counts
counts_in t = record { right = t.right; repeated = t.repeated; wrong = t.wrong; missing = t.missing }
