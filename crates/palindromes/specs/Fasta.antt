-- DEFINITIONS. What a FASTA text says, in document 01's narrow reading of NCBI's description, with the small letters of 02 (i). Nothing here is proved.
use Rattle.std.specs.Prelude.{ℕ, zero, suc, ◌-◌, Bool, true, false, cond, ◌&&◌, ◌||◌, [], ◌∷◌, leb, eqb, drop}
use Rattle.palindromes.specs.Word.{Word, is_letter}
use Rattle.palindromes.specs.Bed.{is_identifier_byte}

-- what the reader answers: a refusal's number, or the identifier's length and the letters in file order
pub data Fasta : Type 0 where
  refused : ℕ → Fasta
  accepted : ℕ → Word → Fasta

-- how many bytes at the front of the text may stand in an identifier
unfoldable pub identifier_length : Word → ℕ
identifier_length [] = zero
identifier_length (b ∷ t) = elim (is_identifier_byte b) [ true ↦ suc (identifier_length t) | false ↦ zero ]

unfoldable pub starts_with_lf : Word → Bool
starts_with_lf [] = false
starts_with_lf (b ∷ t) = eqb b 10

-- 01 "ended by a space, a tab or the line's end": LF, CR LF or the end of input
unfoldable pub ends_identifier : Word → Bool
ends_identifier [] = true
ends_identifier (b ∷ t) = eqb b 32 || eqb b 9 || eqb b 10 || (eqb b 13 && starts_with_lf t)

-- 01 "the first line is `>` and an identifier": 1 to 32 bytes, ended as above
unfoldable pub good_first_line : Word → Bool
good_first_line [] = false
good_first_line (b ∷ t) = eqb b 62 && leb 1 (identifier_length t) && leb (identifier_length t) 32 && ends_identifier (drop (identifier_length t) t)

-- what stands after the first line; 01 "the rest of that line is ignored"
unfoldable pub after_first_line : Word → Word
after_first_line [] = []
after_first_line (b ∷ t) = elim (eqb b 10) [ true ↦ t | false ↦ after_first_line t ]

-- 02 (i) "lower case read as upper case": the capital of a small ASCII letter, and every other byte itself
unfoldable pub upper : ℕ → ℕ
upper b = cond (leb 97 b && leb b 122) (b - 32) b

-- what a byte of a later line is, by the place in its line and the bytes after it
pub data Kind : Type 0 where
  second_header line_end before_lf letter other : Kind

-- 01 "a CR with no LF after it is a byte that is not a letter", and 11 comes "first at a line's first byte"
unfoldable pub kind_of : (line_start : Bool) → ℕ → Word → Kind
kind_of line_start b t =
    cond (line_start && eqb b 62) second_header
    (cond (eqb b 10) line_end (cond (eqb b 13 && starts_with_lf t) before_lf (cond (is_letter b) letter other)))

-- the letters of the later lines, or the number of the first fault in reading order
pub data Body : Type 0 where
  fault : ℕ → Body
  letters : Word → Body

unfoldable pub with_letter : ℕ → Body → Body
with_letter b (fault n) = fault n
with_letter b (letters w) = letters (b ∷ w)

-- one byte of a later line: `next` reads the rest, from whether a line begins and the room that is left. 01 "a byte's letter test precedes its room test"
unfoldable pub read_byte : Kind → Bool → ℕ → ℕ → (Bool → ℕ → Body) → Body
read_byte second_header line_start room b next = fault 11
read_byte line_end line_start room b next = next true room
read_byte before_lf line_start room b next = next line_start room
read_byte letter line_start zero b next = fault 5
read_byte letter line_start (suc room) b next = with_letter b (next false room)
read_byte other line_start room b next = fault 4

-- each byte of a later line is read as its capital: of the small ones a, c, g and t are letters then, and 02 (i) "the other codes still get 4"
unfoldable pub read_lines : Word → Bool → ℕ → Body
read_lines [] line_start room = letters []
read_lines (b ∷ t) line_start room = read_byte (kind_of line_start (upper b) t) line_start room (upper b) (λ start left. read_lines t start left)

unfoldable pub with_identifier : ℕ → Body → Fasta
with_identifier n (fault k) = refused k
with_identifier n (letters w) = accepted n w

-- the whole text, with room for 1,024 letters: 10 for a first line that is not as above or an empty input, then 11, 4 and 5 in reading order
unfoldable pub read_fasta : Word → Fasta
read_fasta [] = refused 10
read_fasta (b ∷ t) = elim (good_first_line (b ∷ t)) [ true ↦ with_identifier (identifier_length t) (read_lines (after_first_line t) true 1024) | false ↦ refused 10 ]
