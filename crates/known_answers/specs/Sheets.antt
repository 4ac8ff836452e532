-- DEFINITIONS. Sheets with their numbers and counts: 02 (xi). Nothing here is proved.
use Rattle.std.specs.Prelude.{ℕ, Bool, true, false, List, [], ◌∷◌, ◌++◌}
use Rattle.std.proofs.Math.Option.{none}
use Rattle.palindromes.specs.Word.{Word}
use Rattle.palindromes.specs.Palindrome.{plain}
use Rattle.palindromes.specs.Reading.{Reading, as_plain, as_inverted, reading_number, rule_in}
use Rattle.palindromes.specs.Bed.{bed_line, listing}
use Rattle.palindromes.specs.Marks.{Counts, sheet_counts, full_marks}
use Rattle.palindromes.specs.Refusal.{ask, mark, View, store_size, refusal}

-- a sheet against a record
pub record Example : Type 0 where
  pub way : Reading
  pub letters : Word
  pub sheet : Word
  pub room : ℕ

-- the number; for 0 the four counts and whether the sheet has full marks
pub record Result : Type 0 where
  pub number : ℕ
  pub counts : List ℕ
  pub full : Bool

abbrev pub e1 : Word
e1 = 101 ∷ 49 ∷ []

unfoldable pub in_order : Counts → List ℕ
in_order t = t.right ∷ t.repeated ∷ t.wrong ∷ t.missing ∷ []

-- what the call meets: a good store with these letters, and a mark sheet of so many bytes
unfoldable pub view_for : Example → View
view_for x =
    record {
      size = store_size 1024;
      scratch = 0;
      out = x.room;
      good = true;
      capacity = 1024;
      reading = reading_number x.way;
      letters = x.letters;
      row = λ r. none;
    }

unfoldable pub result_of : Example → Result
result_of x =
    let rule = rule_in (reading_number x.way) in
    let counts = sheet_counts rule e1 x.letters x.sheet in
    record { number = refusal rule (view_for x) (ask (mark e1 x.sheet)); counts = in_order counts; full = full_marks counts }

-- the letters of 01's example, ACGAAG, and AA
abbrev pub acgaag : Word
acgaag = 65 ∷ 67 ∷ 71 ∷ 65 ∷ 65 ∷ 71 ∷ []

abbrev pub aa : Word
aa = 65 ∷ 65 ∷ []

abbrev on : Word → Word → Example
on letters sheet = record { way = as_plain; letters = letters; sheet = sheet; room = 32 }

abbrev short : Word → Word → Example
short letters sheet = record { way = as_plain; letters = letters; sheet = sheet; room = 31 }

abbrev inverted : Word → Word → Example
inverted letters sheet = record { way = as_inverted; letters = letters; sheet = sheet; room = 32 }

abbrev line : ℕ → ℕ → Word
line start end = bed_line e1 start end

abbrev got : List ℕ → Bool → Result
got counts full = record { number = 0; counts = counts; full = full }

-- of a refused sheet that is no sheet nothing is counted but what it misses
abbrev refused : ℕ → ℕ → Result
refused number missing = record { number = number; counts = 0 ∷ 0 ∷ 0 ∷ missing ∷ []; full = false }

abbrev pub examples : List (Example × Result)
examples =
    -- the record's own list, and the same from the last line up
    (on acgaag (listing plain e1 acgaag), got (5 ∷ 0 ∷ 0 ∷ 0 ∷ []) true)
    ∷ (on acgaag (line 2 6 ++ line 3 5 ++ line 2 3 ++ line 1 2 ++ line 0 1), got (5 ∷ 0 ∷ 0 ∷ 0 ∷ []) true)
    -- A at another place, and again at a third; a stretch that is no repeat
    ∷ (on acgaag (line 3 4 ++ line 4 5 ++ line 0 2), got (1 ∷ 1 ∷ 1 ∷ 4 ∷ []) false)
    -- start and end alike, start above end, end above the length, the largest number
    ∷ (on aa (line 1 1 ++ line 2 1 ++ line 0 3 ++ line 0 9999), got (0 ∷ 0 ∷ 4 ∷ 2 ∷ []) false)
    -- a repeat named first by a wrong line: identifiers that do not agree, an empty one and one with any bytes; then by a right one
    ∷ (
      on aa (bed_line [] 0 1 ++ bed_line (32 ∷ 13 ∷ 0 ∷ 255 ∷ []) 0 1 ++ bed_line (101 ∷ []) 0 1 ++ line 0 1 ++ line 0 2),
      got (2 ∷ 0 ∷ 3 ∷ 0 ∷ []) false,
    )
    -- no line: on no letter, on letters, on an inverted record without a repeat
    ∷ (on [] [], got (0 ∷ 0 ∷ 0 ∷ 0 ∷ []) true)
    ∷ (on aa [], got (0 ∷ 0 ∷ 0 ∷ 2 ∷ []) false)
    ∷ (inverted aa [], got (0 ∷ 0 ∷ 0 ∷ 0 ∷ []) true)
    -- GAATTC inverted: AT, AATT and GAATTC; a single letter is wrong there
    ∷ (inverted (71 ∷ 65 ∷ 65 ∷ 84 ∷ 84 ∷ 67 ∷ []) (line 0 6 ++ line 1 5 ++ line 2 4), got (3 ∷ 0 ∷ 0 ∷ 0 ∷ []) true)
    ∷ (inverted (71 ∷ 65 ∷ 65 ∷ 84 ∷ 84 ∷ 67 ∷ []) (line 0 6 ++ line 0 1), got (1 ∷ 0 ∷ 1 ∷ 2 ∷ []) false)
    -- 13: the last line without its LF, an empty line, CR LF, two fields, four fields, an empty number, a needless zero, five digits, a sign
    ∷ (on aa (101 ∷ 49 ∷ 9 ∷ 48 ∷ 9 ∷ 49 ∷ []), refused 13 2)
    ∷ (on aa (line 0 1 ++ (10 ∷ [])), refused 13 2)
    ∷ (on aa (101 ∷ 49 ∷ 9 ∷ 48 ∷ 9 ∷ 49 ∷ 13 ∷ 10 ∷ []), refused 13 2)
    ∷ (on aa (101 ∷ 49 ∷ 9 ∷ 48 ∷ 10 ∷ []), refused 13 2)
    ∷ (on aa (101 ∷ 49 ∷ 9 ∷ 48 ∷ 9 ∷ 49 ∷ 9 ∷ 49 ∷ 10 ∷ []), refused 13 2)
    ∷ (on aa (101 ∷ 49 ∷ 9 ∷ 9 ∷ 49 ∷ 10 ∷ []), refused 13 2)
    ∷ (on aa (101 ∷ 49 ∷ 9 ∷ 48 ∷ 9 ∷ 48 ∷ 49 ∷ 10 ∷ []), refused 13 2)
    ∷ (on aa (line 0 10000), refused 13 2)
    ∷ (on aa (101 ∷ 49 ∷ 9 ∷ 43 ∷ 48 ∷ 9 ∷ 49 ∷ 10 ∷ []), refused 13 2)
    -- 13 before 9, and 9 on a sheet that is one
    ∷ (short aa (10 ∷ []), refused 13 2)
    ∷ (short aa [], refused 9 2)
    ∷ []
