-- DEFINITIONS. What is claimed of marking a sheet after every list of calls: 02 (xi). m is the reading in force and s the letters, as they follow from the
-- arguments, and b the store. Nothing here is proved.
use Rattle.std.specs.Prelude.{ℕ, ◌+◌, ◌<◌, ◌≡◌, true, false, length}
use Rattle.palindromes.specs.Word.{Word}
use Rattle.palindromes.specs.Reading.{rule_in}
use Rattle.palindromes.specs.Record.{count}
use Rattle.palindromes.specs.Bed.{is_identifier, listing}
use Rattle.palindromes.specs.Sheet.{sheet_lines, is_sheet, lines_in}
use Rattle.palindromes.specs.Marks.{Counts, sheet_counts, full_marks, counts_bytes, counts_read}
use Rattle.palindromes.specs.Refusal.{mark}
use Rattle.mark_laws.specs.Full.{Full}
use Rattle.mark_laws.specs.Slip.{Slip}
use Rattle.outcome.specs.Reply.{answer}
use Rattle.traces.specs.Writes.{Writes, Refuses}

-- what is counted on a sheet
abbrev pub counts_after : (m : ℕ) (s name sheet : Word) → Counts
counts_after m s name sheet = sheet_counts (rule_in m) name s sheet

-- "the four counts of this sheet replace those that the mark sheet held. The call answers whether the sheet has full marks", or "a shorter one is
-- refused with 9"
abbrev pub Marked : (m : ℕ) (s name sheet b : Word) → Type 0
Marked m s name sheet b =
    let counts = counts_after m s name sheet in
    Writes (mark name sheet) (answer (full_marks counts) 0 0 0) (counts_bytes counts) b

-- which of these it is, for every identifier and sheet: the letters and the reading decide the counts
pub record Marking (m : ℕ) (s b : Word) : Type 0 where
  pub bad-name : (name sheet : Word) → is_identifier name ≡ false → Refuses (mark name sheet) 10 b
  pub bad-sheet : (name sheet : Word) → is_identifier name ≡ true → is_sheet (sheet_lines sheet) ≡ false → Refuses (mark name sheet) 13 b
  pub marked : (name sheet : Word) → is_identifier name ≡ true → is_sheet (sheet_lines sheet) ≡ true → Marked m s name sheet b
  -- a mark sheet has 32 bytes, and the counts are read back from them, whatever sheet a host can lend
  pub size : (name sheet : Word) → length (counts_bytes (counts_after m s name sheet)) ≡ 32
  pub read : (name sheet : Word) → length sheet < 18446744073709551616
      → counts_read (counts_bytes (counts_after m s name sheet)) ≡ counts_after m s name sheet
  -- right and missing are all repeats, and right, repeated and wrong all lines
  pub repeats : (name sheet : Word) → let t = counts_after m s name sheet in t.right + t.missing ≡ count (rule_in m) s
  pub lines : (name sheet : Word) → let t = counts_after m s name sheet in t.right + t.repeated + t.wrong ≡ length (lines_in (sheet_lines sheet))
  -- "it has them exactly if each repeat is named by one right line and no other line stands on the sheet"
  pub full : (name sheet : Word) → full_marks (counts_after m s name sheet) ≡ true → Full (rule_in m) name s (lines_in (sheet_lines sheet))
  pub is-full : (name sheet : Word) → Full (rule_in m) name s (lines_in (sheet_lines sheet)) → full_marks (counts_after m s name sheet) ≡ true
  -- the record's own list, under its own identifier, is a sheet and has full marks; with a slip in one line it has not
  pub own-sheet : (name : Word) → is_identifier name ≡ true → is_sheet (sheet_lines (listing (rule_in m) name s)) ≡ true
  pub own-full : (name : Word) → is_identifier name ≡ true → full_marks (counts_after m s name (listing (rule_in m) name s)) ≡ true
  pub slip : (name sheet : Word) → is_identifier name ≡ true → Slip (rule_in m) name s sheet → full_marks (counts_after m s name sheet) ≡ false
