-- DEFINITIONS. The refusal number of each call of document 01, in the order of its table "Numbers by the place where they are checked".
-- Nothing here is proved.
use Rattle.std.specs.Prelude.{ℕ, zero, suc, ◌+◌, ◌*◌, ◌/◌, Bool, true, false, ◌&&◌, ◌||◌, not, List, [], ◌∷◌, leb, ltb, eqb, length}
use Rattle.std.proofs.Math.Option.{Option, none, some}
use Rattle.palindromes.specs.Word.{Word, is_letter, all_letters, is_empty}
use Rattle.palindromes.specs.Reading.{Reading, as_inverted, reading_number}
use Rattle.palindromes.specs.End.{End}
use Rattle.palindromes.specs.Interval.{interval_bytes}
use Rattle.palindromes.specs.MinimalUnique.{minimal_unique}
use Rattle.palindromes.specs.Node.{Node, spelling_of}
use Rattle.palindromes.specs.Bed.{is_identifier, listing}
use Rattle.palindromes.specs.Genbank.{genbank}
use Rattle.palindromes.specs.Factorization.{factor_ends, end_bytes}
use Rattle.palindromes.specs.Sheet.{sheet_lines, is_sheet}

-- a question with its arguments: it changes no byte of the store
pub data Question : Type 0 where
  the_length the_count the_longest the_longest_length the_occurrences page the_minimal_unique the_pieces : Question
  the_longest_at : End → Question
  the_letter : (place : ℕ) → Question
  the_row : (row : ℕ) → Question
  the_frequency : (row : ℕ) → Question
  spell : (row : ℕ) → Question
  find : (piece : Word) → Question
  list : (identifier : Word) → Question
  mark : (identifier sheet : Word) → Question

-- a call with its arguments, numbers as the host passes them. The buffers that it is lent to write to come beside it
pub data Call : Type 0 where
  opening : Reading → (capacity : ℕ) → Call
  add : End → (letter : ℕ) → Call
  remove : End → Call
  turn : Reading → Call
  ask : Question → Call

-- what a call meets: the sizes of the lent store, scratch and output, whether the store is good and long enough for its capacity, and what it shows. The
-- letters do not decide which row a repeat has, so what each row holds stands beside them: `none` for a free row and for a number over capacity + 1
pub record View : Type 0 where
  pub size : ℕ
  pub scratch : ℕ
  pub out : ℕ
  pub good : Bool
  pub capacity : ℕ
  pub reading : ℕ
  pub letters : Word
  pub row : ℕ → Option Node

-- 01 "at least 48 × capacity + 256 bytes"
unfoldable pub store_size : ℕ → ℕ
store_size capacity = 48 * capacity + 256

-- 02 (ix) "scratch of one bit a letter, rounded up to whole bytes"
unfoldable pub scratch_size : ℕ → ℕ
scratch_size letters = (letters + 7) / 8

-- a row of the table: its number where it applies, and 0 where it does not
unfoldable pub fault : ℕ → Bool → ℕ
fault number true = number
fault number false = zero

-- 01 "within a call the rows are tested downwards": the first that applies
unfoldable pub first_fault : List ℕ → ℕ
first_fault [] = zero
first_fault (zero ∷ rest) = first_fault rest
first_fault (suc n ∷ rest) = suc n

-- row 7 for a row: free, or over capacity + 1
unfoldable pub is_free : Option Node → Bool
is_free none = true
is_free (some v) = false

-- the bytes that spelling a row writes
unfoldable pub spelling_length : Option Node → ℕ
spelling_length none = zero
spelling_length (some v) = length (spelling_of v)

-- the rows of the table that name a question, after that of the store. 02 (iii) "rows 0 and 1, free rows and rows over capacity + 1 are refused with 7"
unfoldable pub question_faults : (ℕ → ℕ) → View → Question → List ℕ
question_faults σ v the_length = []
question_faults σ v the_count = []
question_faults σ v the_longest = fault 6 (is_empty v.letters) ∷ []
question_faults σ v the_longest_length = []
question_faults σ v the_occurrences = []
question_faults σ v page = fault 9 (ltb v.out (length (genbank v.letters))) ∷ []
question_faults σ v the_minimal_unique = fault 9 (ltb v.out (length (interval_bytes (minimal_unique σ v.letters)))) ∷ []
question_faults σ v the_pieces =
    fault 14 (eqb v.reading (reading_number as_inverted)) ∷ fault 9 (ltb v.out (length (end_bytes (factor_ends σ v.letters)))) ∷ []
question_faults σ v (the_longest_at e) = fault 6 (is_empty v.letters) ∷ []
question_faults σ v (the_letter i) = fault 7 (leb (length v.letters) i) ∷ []
question_faults σ v (the_row r) = fault 7 (is_free (v.row r)) ∷ []
question_faults σ v (the_frequency r) = fault 7 (ltb r 2 || is_free (v.row r)) ∷ []
question_faults σ v (spell r) = fault 7 (is_free (v.row r)) ∷ fault 9 (ltb v.out (spelling_length (v.row r))) ∷ []
question_faults σ v (find p) = fault 8 (is_empty p) ∷ fault 4 (not (all_letters p)) ∷ []
question_faults σ v (list name) =
    fault 10 (not (is_identifier name))
    ∷ fault 9 (ltb v.scratch (scratch_size (length v.letters)))
    ∷ fault 9 (ltb v.out (length (listing σ name v.letters)))
    ∷ []
-- 02 (xi) "refusal 13 follows 10 in the order"; 9 is the table's last row
question_faults σ v (mark name sheet) =
    fault 10 (not (is_identifier name))
    ∷ fault 13 (not (is_sheet (sheet_lines sheet)))
    ∷ fault 9 (ltb v.out 32)
    ∷ []

-- the rows of the table that name the call, downwards
unfoldable pub faults : (ℕ → ℕ) → View → Call → List ℕ
faults σ v (opening way k) = fault 1 (not (leb 1 k && leb k 1024)) ∷ fault 2 (ltb v.size (store_size k)) ∷ []
faults σ v (add e c) = fault 3 (not v.good) ∷ fault 4 (not (is_letter c)) ∷ fault 5 (leb v.capacity (length v.letters)) ∷ []
faults σ v (remove e) = fault 3 (not v.good) ∷ fault 6 (is_empty v.letters) ∷ []
faults σ v (turn way) = fault 3 (not v.good) ∷ []
faults σ v (ask q) = fault 3 (not v.good) ∷ question_faults σ v q

-- the number that the call answers: 0 exactly if it is carried out
unfoldable pub refusal : (ℕ → ℕ) → View → Call → ℕ
refusal σ v call = first_fault (faults σ v call)
