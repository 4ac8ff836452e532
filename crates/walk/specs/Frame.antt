-- What the contracts say of a frame: that it is the one of a store, which letters are read with it, and that those lie within the store.
use Rattle.std.specs.Prelude.{ℕ, ◌+◌, ◌≤◌, ◌<◌, ◌≡◌, length, take, drop}
use Rattle.palindromes.specs.Word.{Word}
use Rattle.palindromes.specs.Palindrome.{plain}
use Rattle.palindromes.specs.Reading.{rule_in}
use Rattle.store.specs.Layout.{capacity_in, size_in, reading_in, letters_at}
use Rattle.store.specs.Side.{end_of}
use Rattle.store.specs.Writes.{towards}
use Rattle.store.specs.declared.letters.Side.{Side}
use Rattle.walk.specs.declared.frame.Frame.{Frame}

-- the frame is that of the store
pub record Frames (b : Word) (f : Frame) : Type 0 where
  pub reading-is : f.reading ≡ reading_in b
  pub base-is : f.base ≡ letters_at (capacity_in b)
  pub size_is : f.n ≡ size_in b
  pub capacity-is : f.capacity ≡ capacity_in b

-- the partner of a letter
abbrev pub partner_in : Frame → ℕ → ℕ
partner_in f = rule_in f.reading

-- the letters of the frame as they stand, in the order in which they are read towards a side
abbrev pub standing_in : Word → Frame → Side → Word
standing_in b f side = towards plain (end_of side) (take f.n (drop f.base b))

-- the letters of the frame, read towards a side: at the left they are the partners of those that stand
abbrev pub seen_in : Word → Frame → Side → Word
seen_in b f side = towards (partner_in f) (end_of side) (take f.n (drop f.base b))

-- the letters of the frame lie within the store, and k of them have been read
pub record Within (b : Word) (f : Frame) (k : ℕ) : Type 0 where
  pub letters : f.base + f.n ≤ length b
  pub read : k ≤ f.n
  pub small : f.n < 65536
