-- DEFINITIONS. A partner rule that is lent as a table. Nothing here is proved.
use Rattle.std.specs.Prelude.{ℕ, List, get_or}

-- the partner of a byte: what the table has at it. A byte past the table's end is its own partner, so the empty table is the plain rule
abbrev pub rule_of : List ℕ → ℕ → ℕ
rule_of t x = get_or t x x
