-- What each test of src/lib.rt decides: the parts of a good store that say nothing of its palindromes.
use Rattle.std.specs.Prelude.{ℕ, ◌+◌, ◌≤◌, ◌<◌, ◌≡◌, get_or, ℤ, pos, negsuc}
use Rattle.palindromes.specs.Word.{Word}
use Rattle.store.specs.Layout.{capacity_in, size_in, reading_in, length_in, link_in, inner_in, outer_in, letters_at}
use Rattle.store.specs.Good.{Sized}

-- the sizes, and one of the two readings
pub record HeaderRight (b : Word) : Type 0 where
  pub sized : Sized b
  pub reading : reading_in b < 2

-- the places after the last letter are zero
abbrev pub FreePlaces : Word → Type 0
FreePlaces b = (i : ℕ) → size_in b ≤ i → i < capacity_in b → get_or b (letters_at (capacity_in b) + i) 0 ≡ 0

-- the row of a root of the given length, edges apart: its link and its inner row are the imaginary string's, and it has no letter
pub record RootRight (b : Word) (r : ℕ) (length : ℤ) : Type 0 where
  pub length-is : length_in b r ≡ length
  pub link : link_in b r ≡ 0
  pub inner : inner_in b r ≡ 0
  pub outer : outer_in b r ≡ 0

-- the rows of both roots: the imaginary string, of length -1, and the empty string
pub record RootsRight (b : Word) : Type 0 where
  pub imaginary : RootRight b 0 (negsuc 0)
  pub empty : RootRight b 1 (pos 0)
