-- What the contracts of src/ say of a walk over the letters that keeps a bit for each row in use whose rank is in a window: the bit is set once the row's palindrome has stood in what is read.
use Rattle.std.specs.Prelude.{ℕ, ◌+◌, ◌-◌, ◌≤◌, ◌<◌, ◌≡◌, Bool, true, ◌&&◌, length, take}
use Rattle.std.proofs.lemmas.List.Edits.{sets}
use Rattle.palindromes.specs.Word.{Word}
use Rattle.palindromes.specs.Place.{stands}
use Rattle.palindromes.specs.Node.{spelt}
use Rattle.palindromes.specs.Refusal.{scratch_size}
use Rattle.bitmap.specs.Bitmap.{bit_at, in_window}
use Rattle.store.specs.Layout.{size_in, rank_in, used_in, letters_in}
use Rattle.store.specs.Good.{node_in}
use Rattle.walk.specs.Replay.{new_at, Holds}

-- two buffers that differ in their first n bytes at most: whatever is stored over those, they are the same after it
abbrev pub SameBehind : ℕ → Word → Word → Type 0
SameBehind n old new = (w : Word) → n ≤ length w → sets new 0 w ≡ sets old 0 w

-- where a walk is that has read the first k letters: at the row of the longest palindrome that ends them, with a mark at each palindrome of the window that stands among them
pub record ReadTo (b : Word) (from k row : ℕ) (marks : Word) : Type 0 where
  pub ends : Holds b k row
  pub tells : (r : ℕ) (w : Word) → used_in b r ≡ true → 2 ≤ r → node_in b r ≡ spelt w → in_window from (rank_in b r) marks ≡ true → bit_at marks (rank_in b r - from) ≡ stands w (take k (letters_in b))

-- where the walk is after one letter more: whether the palindrome that ends there is one of the window and stands there for the first time
pub record ReadOn (b : Word) (from k : ℕ) (old : Word) (row : ℕ) (first : Bool) (marks : Word) : Type 0 where
  pub reads : ReadTo b from (k + 1) row marks
  pub first-is : first ≡ (new_at b k && in_window from (rank_in b row) old)
  pub kept : SameBehind (scratch_size (size_in b)) old marks

-- with one letter more, at whose end the row is met, the walk goes on
abbrev pub Meets : (b : Word) (from row : ℕ) (old : Word) (first : Bool) (marks : Word) → Type 0
Meets b from row old first marks =
    (k last : ℕ) → k < size_in b → ReadTo b from k last old → Holds b (k + 1) row → ReadOn b from k old row first marks
