-- What the contracts of src/lib.rt say of a sheet that is marked.
use Rattle.std.specs.Prelude.{ℕ, List, [], Option, Some, None}
use Rattle.std.proofs.Math.Option.{Option as Maybe, none, some}
use Rattle.palindromes.specs.Word.{Word}
use Rattle.palindromes.specs.Sheet.{Line, sheet_lines}
use Rattle.palindromes.specs.Marks.{Counts, counts_from}
use Rattle.store.specs.Layout.{letters_in}
use Rattle.store.specs.Good.{rule_of}
use Rattle.tally.specs.declared.Tally.{Tally}

-- the counts of a sheet's lines, where it is a sheet
unfoldable pub counts_in : (ℕ → ℕ) → Word → Word → List Word → Maybe (List Line) → Maybe Counts
counts_in σ identifier s before none = none
counts_in σ identifier s before (some ls) = some (counts_from σ identifier s before ls)

unfoldable pub sheet_marks_of : Maybe Counts → Option Tally
sheet_marks_of none = None
sheet_marks_of (some t) = Some (record { right = t.right; repeated = t.repeated; wrong = t.wrong; missing = t.missing })

-- what a sheet is worth by the rule and the letters of a store
abbrev pub marks_of : (b identifier sheet : Word) → Option Tally
marks_of b identifier sheet = sheet_marks_of (counts_in (rule_of b) identifier (letters_in b) [] (sheet_lines sheet))
