-- A sheet line by line: what stands in front of the first LF is a line, and the sheet goes on behind it. Rests on the laws of parts.
use Prim.Native.Nat.{suc, ◌≤◌, ◌<◌}
use native.Mathlib.Omega.{arith}
use mathlib.Core.Path.{◌≡◌, refl}
use mathlib.Core.List.{[], ◌∷◌}
use mathlib.Core.Option.{Option, none, some}
use lib.ListN.{length, take, drop}
use Rattle.palindromes.specs.Word.{Word}
use Rattle.palindromes.specs.Sheet.{split, Line, line_of, with_line, lines_of, sheet_lines}
use Rattle.bed_reader.specs.declared.Entry.{Entry}
use Rattle.std.specs.Prelude.{Some, None}
use Rattle.bed_reader.specs.Reading.{place_of, entry_of, parsed_of}
use Rattle.bed_reader.proofs.Fields.{split-none, split-first, split-some}

-- the first line and the others
pub sheet-line : (w : Word) → place_of 10 w < length w
    → sheet_lines w ≡ with_line (line_of (split 9 (take (place_of 10 w) w))) (sheet_lines (drop (suc (place_of 10 w)) w))
unfolding sheet_lines lines_of
sheet-line w h = let s = split-some 10 (drop (suc (place_of 10 w)) w) in rw (split-first 10 w h, s.2)

-- bytes without an LF behind them
pub sheet-unended : (w : Word) → 0 < length w → length w ≤ place_of 10 w → sheet_lines w ≡ none
unfolding sheet_lines lines_of
sheet-unended [] p h = absurd (omega arith)
sheet-unended (b ∷ w) p h = rw (split-none 10 (b ∷ w) h)

pub sheet-empty : sheet_lines [] ≡ some []
unfolding sheet_lines lines_of split
sheet-empty = refl

-- what was read is the line
pub parsed-none : (identifier : Word) (o : Option Line) → parsed_of identifier o ≡ None → o ≡ none
unfolding parsed_of
parsed-none identifier none e = refl
parsed-none identifier (some l) e = cc

pub parsed-line : (identifier : Word) (o : Option Line) (x : Entry) → parsed_of identifier o ≡ Some x
    → (l : Line) × (o ≡ some l) × (entry_of identifier l ≡ x)
unfolding parsed_of
parsed-line identifier none x e = cc
parsed-line identifier (some l) x e = (l, refl, cc)
