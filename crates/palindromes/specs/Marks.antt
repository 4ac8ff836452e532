-- DEFINITIONS. What a sheet's lines are worth: 02 (xi). Nothing here is proved.
use Rattle.std.specs.Prelude.{ℕ, zero, suc, ◌+◌, ◌*◌, ◌/◌, ◌%◌, Bool, cond, ◌&&◌, not, List, [], ◌∷◌, ◌++◌, leb, ltb, eqb, length, take, drop}
use Rattle.palindromes.specs.Word.{Word, same_word, member, keep}
use Rattle.palindromes.specs.Palindrome.{is_palindrome}
use Rattle.palindromes.specs.Record.{palindromes}
use Rattle.palindromes.specs.Interval.{interval, word_at}
use Rattle.palindromes.specs.Sheet.{Line, sheet_lines, lines_in}

-- the stretch that a line names
unfoldable pub named : Word → Line → Word
named s l = word_at s (interval l.start l.end)

-- "its identifier agrees, start is below end, end is at most the record's length, the stretch is a repeat", at whatever place: "any place of
-- a repeat will do"
unfoldable pub is_naming : (ℕ → ℕ) → Word → Word → Line → Bool
is_naming σ identifier s l =
    same_word l.name identifier && ltb l.start l.end && leb l.end (length s) && is_palindrome σ (named s l)

pub data Mark : Type 0 where
  right repeated wrong : Mark

-- a line's mark, if right lines above it name the repeats `before`: "repeated if only the last of these fails, and wrong otherwise"
unfoldable pub mark_of : (ℕ → ℕ) → Word → Word → (before : List Word) → Line → Mark
mark_of σ identifier s before l = cond (is_naming σ identifier s l) (cond (member (named s l) before) repeated right) wrong

-- 02 (xi) "right, repeated, wrong and missing lines"
pub record Counts : Type 0 where
  pub right : ℕ
  pub repeated : ℕ
  pub wrong : ℕ
  pub missing : ℕ

-- a line's mark counted on top of those below it
unfoldable pub counted : Mark → Counts → Counts
counted right t = record { right = suc t.right; repeated = t.repeated; wrong = t.wrong; missing = t.missing }
counted repeated t = record { right = t.right; repeated = suc t.repeated; wrong = t.wrong; missing = t.missing }
counted wrong t = record { right = t.right; repeated = t.repeated; wrong = suc t.wrong; missing = t.missing }

-- the repeats that right lines name, with a line more
unfoldable pub with_named : Mark → Word → List Word → List Word
with_named right w before = w ∷ before
with_named repeated w before = before
with_named wrong w before = before

-- "missing counts the repeats that no right line names"
unfoldable pub missing_from : (ℕ → ℕ) → Word → List Word → ℕ
missing_from σ s before = length (keep (λ p. not (member p before)) (palindromes σ s))

-- the counts of the lines that are left, from the repeats that right lines named before
unfoldable pub counts_from : (ℕ → ℕ) → Word → Word → List Word → List Line → Counts
counts_from σ identifier s before [] = record { right = 0; repeated = 0; wrong = 0; missing = missing_from σ s before }
counts_from σ identifier s before (l ∷ ls) =
    let m = mark_of σ identifier s before l in counted m (counts_from σ identifier s (with_named m (named s l) before) ls)

unfoldable pub counts_of : (ℕ → ℕ) → Word → Word → List Line → Counts
counts_of σ identifier s ls = counts_from σ identifier s [] ls

-- "each repeat is named by one right line and no other line stands on the sheet"
unfoldable pub full_marks : Counts → Bool
full_marks t = eqb t.repeated 0 && eqb t.wrong 0 && eqb t.missing 0

-- what is counted on a sheet that is accepted
unfoldable pub sheet_counts : (ℕ → ℕ) → Word → Word → Word → Counts
sheet_counts σ identifier s sheet = counts_of σ identifier s (lines_in (sheet_lines sheet))

-- ---- the counts as bytes

-- the lowest bytes of a number, low byte first, as many as the first argument says
unfoldable pub low_bytes : ℕ → ℕ → Word
low_bytes zero n = []
low_bytes (suc more) n = n % 256 ∷ low_bytes more (n / 256)

-- "the four counts in the order named, eight bytes each, low byte first"
unfoldable pub counts_bytes : Counts → Word
counts_bytes t = low_bytes 8 t.right ++ low_bytes 8 t.repeated ++ low_bytes 8 t.wrong ++ low_bytes 8 t.missing

-- the number that such bytes hold
unfoldable pub from_bytes : Word → ℕ
from_bytes [] = zero
from_bytes (b ∷ w) = b + 256 * from_bytes w

-- what a host reads in a mark sheet: `mirror_right`, `mirror_repeated`, `mirror_wrong` and `mirror_missing` of include/mirror.h, in this order
unfoldable pub counts_read : Word → Counts
counts_read w =
    record {
      right = from_bytes (take 8 w);
      repeated = from_bytes (take 8 (drop 8 w));
      wrong = from_bytes (take 8 (drop 16 w));
      missing = from_bytes (take 8 (drop 24 w));
    }
