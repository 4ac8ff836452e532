-- The numbers of what the FASTA reader answers fit their bytes. Rests on what an accepted text says (`Accepted`).
use Rattle.std.specs.Prelude.{Result, Ok, Err}
use Prim.Native.Nat.{ℕ, ◌<◌}
use native.Mathlib.Omega.{arith}
use mathlib.Core.Path.{◌≡◌, refl}
use mathlib.Core.Bool.{Bool, true, false, cond}
use lib.Dec.{ltb}
use lib.ListN.{length}
use Rattle.palindromes.specs.Word.{Word}
use Rattle.palindromes.specs.Fasta.{Fasta, refused, accepted, read_fasta}
use Rattle.fasta.specs.Reader.{lengths, reading_of}
use Rattle.fasta.specs.declared.Lengths.{Lengths}
use Rattle.fasta.proofs.Accepted.{accepts}

-- the numbers of an answer fit their bytes
abbrev Small : Result Lengths ℕ → Type 0
Small (Ok read) = (read.identifier < 65536) × (read.letters < 65536)
Small (Err number) = Unit {0}

module _ (text out : Word) where
  pub small : {r : Result Lengths ℕ} → r ≡ reading_of (read_fasta text) (length out) → Small r
  unfolding reading_of
  small {r} e = by-text (read_fasta text) refl e
    where
      by-room : (n : ℕ) (w : Word) → read_fasta text ≡ accepted n w → (short : Bool) → r ≡ cond short (Err 9) (Ok (lengths n (length w))) → Small r
      by-room n w s true h = rw h tt
      by-room n w s false h = let a = accepts text n w s in rw h (omega (arith, a.short), omega (arith, a.letters.1))

      by-text : (f : Fasta) → read_fasta text ≡ f → r ≡ reading_of f (length out) → Small r
      by-text (refused k) s h = rw h tt
      by-text (accepted n w) s h = by-room n w s (ltb (length out) (length w)) h
