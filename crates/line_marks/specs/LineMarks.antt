-- What the contracts of src/lib.rt say of a line that is marked.
use Rattle.std.specs.Prelude.{ℕ, ◌+◌, ◌≤◌, ◌≡◌, true, List, length}
use Rattle.palindromes.specs.Word.{Word, member}
use Rattle.palindromes.specs.Record.{count}
use Rattle.palindromes.specs.Node.{spelt}
use Rattle.palindromes.specs.Sheet.{Line}
use Rattle.palindromes.specs.Marks.{named, Mark, right, repeated, wrong, mark_of, with_named, missing_from}
use Rattle.bitmap.specs.Bitmap.{bit_at}
use Rattle.store.specs.Layout.{rank_in, used_in, letters_in}
use Rattle.store.specs.Good.{rule_of, node_in}
use Rattle.bed_reader.specs.declared.Entry.{Entry}
use Rattle.bed_reader.specs.Reading.{entry_of}
use Rattle.line_marks.specs.declared.LineMark.{LineMark}
use Rattle.line_marks.specs.declared.LineMark.TheVariants.{Right, Repeated, Wrong}
use Rattle.line_marks.specs.declared.SoFar.{SoFar}

-- which case a mark is
unfoldable pub line_mark_of : Mark → LineMark
line_mark_of right = Right
line_mark_of repeated = Repeated
line_mark_of wrong = Wrong

-- the counts of the lines above with a line more
unfoldable pub with_mark : Mark → SoFar → SoFar
with_mark right t = record { right = t.right + 1; repeated = t.repeated; wrong = t.wrong }
with_mark repeated t = record { right = t.right; repeated = t.repeated + 1; wrong = t.wrong }
with_mark wrong t = record { right = t.right; repeated = t.repeated; wrong = t.wrong + 1 }

-- the mark of a line, with the repeats that right lines above it name
abbrev pub mark_in : Word → Word → List Word → Line → Mark
mark_in b identifier before l = mark_of (rule_of b) identifier (letters_in b) before l

abbrev pub before_next : Word → Word → List Word → Line → List Word
before_next b identifier before l = with_named (mark_in b identifier before l) (named (letters_in b) l) before

-- the bits tell which repeats right lines name, each at its rank; and with those that are missing they are all
pub record Named (b marks : Word) (before : List Word) : Type 0 where
  pub long : length marks ≡ 128
  pub tells : (r : ℕ) (w : Word) → used_in b r ≡ true → 2 ≤ r → node_in b r ≡ spelt w → bit_at marks (rank_in b r) ≡ member w before
  pub left : length before + missing_from (rule_of b) (letters_in b) before ≡ count (rule_of b) (letters_in b)

-- a line is marked, and its repeat named where it is right: for every line that was read so, and whatever lines stand above it
abbrev pub MarksLine : (b : Word) (x : Entry) (old : Word) (r : LineMark) (new : Word) → Type 0
MarksLine b x old r new = (identifier : Word) (before : List Word) (l : Line) → entry_of identifier l ≡ x → Named b old before
    → (r ≡ line_mark_of (mark_in b identifier before l)) × Named b new (before_next b identifier before l)

abbrev pub CountsLine : (b : Word) (x : Entry) (t : SoFar) (old : Word) (r : SoFar) (new : Word) → Type 0
CountsLine b x t old r new = (identifier : Word) (before : List Word) (l : Line) → entry_of identifier l ≡ x → Named b old before
    → (r ≡ with_mark (mark_in b identifier before l) t) × Named b new (before_next b identifier before l)
