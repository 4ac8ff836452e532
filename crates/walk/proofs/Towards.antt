-- The letters as they are read towards an end, and what the two ends of a record say of them: there the right end is the end in question, whichever that is. A letter that joins at the end is
-- read last, the longest palindrome at the end is the longest that ends what is read, and the palindromes are the same. So what is proved
-- of reading from left to right is proved at both ends.
-- Rests on the laws of the mirror (`Mirror`, `longest-prefix`, `covers-mirror`); a partner rule that undoes itself is asked for only where a mirror is undone.
use Prim.Native.Nat.{ℕ}
use mathlib.Core.Path.{◌≡◌, refl, ap, ◌∙◌}
use mathlib.Core.Logic.Iff
use mathlib.Core.Logic.{◌↔◌}
use mathlib.Core.List.{[], ◌∷◌, ◌++◌}
use lib.ListN.{length}
use Rattle.palindromes.specs.Word.{Word}
use Rattle.palindromes.specs.Palindrome.{SelfInverse, Symmetric}
use Rattle.palindromes.specs.Place.{Stands}
use Rattle.palindromes.specs.Record.{longest_suffix}
use Rattle.palindromes.specs.End.{End, at_left, at_right, added, longest_at}
use Rattle.palindromes.specs.Node.{Node}
use Rattle.palindromes.specs.Eertree.{Table}
use Rattle.palindromes.proofs.Mirror.{mirror-cons, mirror-length, stands-in-mirror}
use Rattle.palindromes.proofs.Longest.{longest-prefix}
use Rattle.eertree.specs.Covers.{Covers}
use Rattle.eertree.proofs.Covers.{covers-mirror}
use Rattle.store.specs.Writes.{towards}
use Rattle.walk.specs.Replay.{letter_towards}

module _ (σ : ℕ → ℕ) where
  -- ---- the letters

  -- as many letters are read as there are
  pub towards-length : (e : End) (s : Word) → length (towards σ e s) ≡ length s
  unfolding towards
  towards-length at_right s = refl
  towards-length at_left s = mirror-length σ s

  -- a letter that joins at the end is read last
  pub towards-added : (e : End) (c : ℕ) (s : Word) → towards σ e (added e c s) ≡ towards σ e s ++ (letter_towards σ e c ∷ [])
  unfolding towards added
  towards-added at_right c s = refl
  towards-added at_left c s = mirror-cons σ c s

module _ (σ : ℕ → ℕ) (inv : SelfInverse σ) where
  -- ---- the palindromes

  -- the longest at the end is the longest that ends what is read
  pub longest-towards : (e : End) (s : Word) → longest_at σ e s ≡ longest_suffix σ (towards σ e s)
  unfolding towards longest_at
  longest-towards at_right s = refl
  longest-towards at_left s = longest-prefix σ inv s

  -- and after an addition there, with the letter read last
  pub longest-towards-added : (e : End) (c : ℕ) (s : Word) → longest_at σ e (added e c s) ≡ longest_suffix σ (towards σ e s ++ (letter_towards σ e c ∷ []))
  longest-towards-added e c s = longest-towards e (added e c s) ∙ ap (longest_suffix σ) (towards-added σ e c s)

  -- a palindrome stands in what is read exactly if it stands in the record
  pub stands-towards : (e : End) {w s : Word} → Symmetric σ w → Stands w s ↔ Stands w (towards σ e s)
  unfolding towards
  stands-towards at_right h = Iff.rfl
  stands-towards at_left h = stands-in-mirror σ inv h

  -- so a table that covers the record covers what is read
  pub covers-towards : (e : End) {s : Word} {T : Table} {node : ℕ → Node} → Covers σ s T node → Covers σ (towards σ e s) T node
  unfolding towards
  covers-towards at_right h = h
  covers-towards at_left h = covers-mirror σ inv h
