-- The reader's answer: what the first line and the later lines were found to be says what `read_fasta` is, and from that the answer and the buffer follow.
-- Rests on the definitions alone. Assumes nothing.
use Rattle.std.specs.Prelude.{Result, Ok, Err}
use Prim.Native.Nat.{ℕ, ◌+◌, ◌≤◌, ◌<◌}
use mathlib.Core.Path.{◌≡◌, refl, sym, ap, ◌∙◌}
use mathlib.Core.Bool.{true, false, true≢false}
use mathlib.Core.List.{[], ◌∷◌}
use native.Mathlib.Nat.{suc-ne-zero}
use native.Mathlib.Omega.{arith}
use lib.ListN.{length, drop}
use lib.Seq.{sets}
use borrow.Author.Tests.{lt-ltb, le-ltb}
use Rattle.palindromes.specs.Word.{Word}
use Rattle.palindromes.specs.Fasta.{Fasta, refused, accepted, identifier_length, good_first_line, after_first_line, Body, fault, letters, read_lines, with_identifier, read_fasta}
use Rattle.fasta.specs.Reader.{lengths, reading_of, written_to, Answers}
use Rattle.fasta_later_lines.specs.Passes.{tally_after, letters_of}

-- ---- what the text says

-- an empty text has no good first line
pub empty-is-bad : (s : Word) → length s ≡ 0 → good_first_line s ≡ false
unfolding good_first_line
empty-is-bad [] none = refl
empty-is-bad (b ∷ t) none = absurd (suc-ne-zero (length t) none)

-- a bad first line decides the whole text
pub bad-text : (s : Word) → good_first_line s ≡ false → read_fasta s ≡ refused 10
unfolding read_fasta
bad-text [] bad = refl
bad-text (b ∷ t) bad = rw (bad, read_fasta)

-- a good first line leaves the text to its later lines
pub good-text : (s : Word) (n : ℕ) → good_first_line s ≡ true → n ≡ identifier_length (drop 1 s)
    → read_fasta s ≡ with_identifier n (read_lines (after_first_line (drop 1 s)) true 1024)
unfolding read_fasta
good-text [] n good length-is = absurd (true≢false (sym good ∙ empty-is-bad [] refl))
good-text (b ∷ t) n good length-is = rw (length-is, good, read_fasta)

-- a fault is not a count
no-fault-is-letters : (k m : ℕ) → ◌≡◌ {A = Result ℕ ℕ} (Err k) (Ok m) → ⊥
no-fault-is-letters k m e = let z : ◌≡◌ {A = ℕ} 0 1 = cc in omega arith

-- a fault of the later lines is the text's
pub fault-found : (n k : ℕ) (body : Body) → Err k ≡ tally_after 0 body → with_identifier n body ≡ refused k
unfolding tally_after with_identifier
fault-found n k (fault j) e = cc
fault-found n k (letters w) e = absurd (no-fault-is-letters k (0 + length w) e)

-- lines whose letters were counted are good and hold that many
pub letters-found : (m : ℕ) (body : Body) → Ok m ≡ tally_after 0 body → (body ≡ letters (letters_of body)) × (length (letters_of body) ≡ m)
unfolding tally_after letters_of
letters-found m (fault k) e = absurd (no-fault-is-letters k m (sym e))
letters-found m (letters w) e = (refl, let counted : m ≡ 0 + length w = cc in omega arith)

-- good lines are the text's letters
pub good-lines : (n : ℕ) (body : Body) → body ≡ letters (letters_of body) → with_identifier n body ≡ accepted n (letters_of body)
unfolding with_identifier
good-lines n body good = ap (with_identifier n) good

-- ---- the answer

-- a refusal changes no byte
pub answers-refusal : (f : Fasta) (k : ℕ) (out : Word) → f ≡ refused k → Answers f out (Err k) out
unfolding reading_of written_to
answers-refusal f k out says = rw says (refl, refl)

module _ (f : Fasta) (n m : ℕ) (w out : Word) (says : f ≡ accepted n w) (many : length w ≡ m) where
  -- too short a buffer is refused and stays
  pub answers-short : length out < m → Answers f out (Err 9) out
  unfolding reading_of written_to
  answers-short short = rw (says, many, lt-ltb (length out) m short) (refl, refl)

  -- the letters stand at the buffer's front
  pub answers-letters : (after : Word) → m ≤ length out → after ≡ sets out 0 w → Answers f out (Ok (lengths n m)) after
  unfolding reading_of written_to
  answers-letters after room written = rw (says, many, le-ltb (length out) m room) (refl, written)
