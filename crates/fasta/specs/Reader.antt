-- DEFINITIONS. What the FASTA reader answers and what it writes, from what `read_fasta` says of the text. Nothing here is proved.
use Rattle.std.specs.Prelude.{ℕ, ◌≡◌, Result, Ok, Err, cond, ltb, length}
use Rattle.std.proofs.lemmas.List.Edits.{sets}
use Rattle.palindromes.specs.Word.{Word}
use Rattle.palindromes.specs.Fasta.{Fasta, refused, accepted}
use Rattle.fasta.specs.declared.Lengths.{Lengths}

-- the identifier's length and the number of letters
abbrev pub lengths : ℕ → ℕ → Lengths
lengths n m = record { identifier = n; letters = m }

-- the answer, with room for so many letters: 01 "FASTA gives 9 only after the whole text was found good"
unfoldable pub reading_of : Fasta → ℕ → Result Lengths ℕ
reading_of (refused n) room = Err n
reading_of (accepted n w) room = cond (ltb room (length w)) (Err 9) (Ok (lengths n (length w)))

-- the output buffer afterwards: the letters at its front, "whose later bytes stay", and every byte as it was after a refusal
unfoldable pub written_to : Fasta → Word → Word
written_to (refused n) out = out
written_to (accepted n w) out = cond (ltb (length out) (length w)) out (sets out 0 w)

-- the answer, a refusal by its number, and the buffer after it are those of a text that says f, for the buffer before
abbrev pub Answers : Fasta → (before : Word) → Result Lengths ℕ → (after : Word) → Type 0
Answers f before r after = (r ≡ reading_of f (length before)) × (after ≡ written_to f before)
