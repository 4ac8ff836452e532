-- What a reading of a text prints.
-- Rests on what an accepted text says (`fasta`). Assumes nothing.
use Rattle.std.specs.Prelude.{Result, Ok, Err}
use Prim.Native.Nat.{ℕ, ◌+◌}
use native.Mathlib.Omega.{arith}
use mathlib.Core.Path.{◌≡◌, refl, sym, ap, ◌∙◌}
use lib.ListN.{length, take, drop}
use lib.Seq.{sets, length-sets, sets-eq, take_at}
use borrow.Author.Tests.{le-ltb}
use Rattle.palindromes.specs.Word.{Word}
use Rattle.palindromes.specs.Palindrome.{plain}
use Rattle.palindromes.specs.Bed.{listing}
use Rattle.palindromes.specs.Fasta.{Fasta, refused, accepted, read_fasta}
use Rattle.fasta.specs.Reader.{lengths, reading_of, written_to}
use Rattle.fasta.specs.declared.Lengths.{Lengths}
use Rattle.fasta.proofs.Accepted.{Accepts, accepts}
use Rattle.refusal_line.specs.RefusalLine.{refused_line}
use Rattle.text_printing.specs.PrintedFor.{identifier_of, printed_for}
use Rattle.text_printing.specs.Read.{Read}

-- there is room for every letter, so the text alone refuses
pub reading-refused : (text : Word) (k : ℕ) → Err k ≡ reading_of (read_fasta text) 1024 → read_fasta text ≡ refused k
unfolding reading_of
reading-refused text k e = by-text (read_fasta text) refl e
  where
    by-text : (f : Fasta) → read_fasta text ≡ f → Err k ≡ reading_of f 1024 → read_fasta text ≡ refused k
    by-text (refused n) s h = s ∙ ap refused (let z : n ≡ k = cc in z)
    by-text (accepted n w) s h =
        let h' : ◌≡◌ {A = Result Lengths ℕ} (Err k) (Ok (lengths n (length w))) = rw (le-ltb 1024 (length w) (accepts text n w s).letters.1) at h in
        absurd (let z : ◌≡◌ {A = ℕ} 0 1 = cc in omega arith)

-- a text that is read, and its letters
pub record Says (text : Word) (n m : ℕ) : Type 0 where
  pub word : Word
  pub says : read_fasta text ≡ accepted n word
  pub many : length word ≡ m

pub reading-accepted : (text : Word) (n m : ℕ) → Ok (lengths n m) ≡ reading_of (read_fasta text) 1024 → Says text n m
unfolding reading_of
reading-accepted text n m e = by-text (read_fasta text) refl e
  where
    by-text : (f : Fasta) → read_fasta text ≡ f → Ok (lengths n m) ≡ reading_of f 1024 → Says text n m
    by-text (refused k) s h = absurd (let z : ◌≡◌ {A = ℕ} 0 1 = cc in omega arith)
    by-text (accepted k w) s h =
        let h' : ◌≡◌ {A = Result Lengths ℕ} (Ok (lengths n m)) (Ok (lengths k (length w))) = rw (le-ltb 1024 (length w) (accepts text k w s).letters.1) at h in
        let same : lengths n m ≡ lengths k (length w) = cc in
        record { word = w; says = s ∙ ap (λ (x : Lengths). accepted x.identifier w) (sym same); many = ap (λ (x : Lengths). x.letters) (sym same) }

module _ {text : Word} {n m : ℕ} (a : Says text n m) (l buffer : Word) (size : length l ≡ 1024) (e : buffer ≡ written_to (read_fasta text) l) where
  good-reading : Accepts text n a.word
  good-reading = accepts text n a.word a.says

  -- the buffer has the letters at its front
  front : buffer ≡ sets l 0 a.word
  unfolding written_to
  front = e ∙ rw (a.says, le-ltb (length l) (length a.word) (omega (arith, good-reading.letters.1)))

  letters-read : take m buffer ≡ a.word
  letters-read =
      ap (take m) (front ∙ sets-eq a.word l 0 (omega (arith, good-reading.letters.1)))
      ∙ take_at a.word (drop (0 + length a.word) l) m a.many

  pub was_read : Read text n buffer m
  was_read =
      record {
        identifier = good-reading.identifier;
        within = good-reading.fits;
        letters = rw letters-read good-reading.letters.0;
        room = omega (arith, ap length front, length-sets l 0 a.word, a.many, good-reading.letters.1);
        few = omega (arith, a.many, good-reading.letters.1);
      }

  list-printed : listing plain (identifier_of n text) (take m buffer) ≡ printed_for (read_fasta text) text
  unfolding printed_for
  list-printed = rw (letters-read, a.says)

-- ---- what is written for a reading, with the buffer after it and the place behind what is written

module _ (text out : Word) {out' : Word} {r : ℕ} where
  pub refusal-written : (k : ℕ) → Err k ≡ reading_of (read_fasta text) 1024 → out' ≡ sets out 0 (refused_line k) → r ≡ length (refused_line k)
      → (out' ≡ sets out 0 (printed_for (read_fasta text) text)) × (r ≡ length (printed_for (read_fasta text) text))
  unfolding printed_for
  refusal-written k h e p =
      let f : refused_line k ≡ printed_for (read_fasta text) text = rw (reading-refused text k h) in
      (e ∙ ap (sets out 0) f, p ∙ ap length f)

  pub list_written : (l buffer : Word) (n m : ℕ) → length l ≡ 1024 → Ok (lengths n m) ≡ reading_of (read_fasta text) 1024 → buffer ≡ written_to (read_fasta text) l
      → out' ≡ sets out 0 (listing plain (identifier_of n text) (take m buffer)) → r ≡ length (listing plain (identifier_of n text) (take m buffer))
      → (out' ≡ sets out 0 (printed_for (read_fasta text) text)) × (r ≡ length (printed_for (read_fasta text) text))
  list_written l buffer n m size h b e p =
      let f = list-printed (reading-accepted text n m h) l buffer size b in
      (e ∙ ap (sets out 0) f, p ∙ ap length f)
