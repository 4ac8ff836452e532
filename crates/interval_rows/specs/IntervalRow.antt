-- What the contracts of src/lib.rt say of the row of the word between two places, and of the jumps along the links by which it is found.
use Rattle.std.specs.Prelude.{◌≡◌, ℕ, ◌-◌, ◌<◌, ◌≤◌, true, length, take, slice_index, Option, MatchOption}
use Rattle.palindromes.specs.Word.{Word}
use Rattle.palindromes.specs.Palindrome.{Palindrome}
use Rattle.palindromes.specs.Place.{Suffix}
use Rattle.palindromes.specs.Interval.{interval, word_at}
use Rattle.palindromes.specs.Node.{spelt, spelling_of}
use Rattle.store.specs.Layout.{used_in, letters_in}
use Rattle.store.specs.Good.{rule_of, node_in}

-- what a row spells
abbrev pub word_in : Word → ℕ → Word
word_in b r = spelling_of (node_in b r)

-- the letters from one place up to another
abbrev pub word_between : Word → ℕ → ℕ → Word
word_between b start end = word_at (letters_in b) (interval start end)

-- a row from 2 on holds the word, which is a palindrome
pub record IsRowOf (b w : Word) (r : ℕ) : Type 0 where
  pub used : used_in b r ≡ true
  pub high : 2 ≤ r
  pub holds : node_in b r ≡ spelt w
  pub palindrome : Palindrome (rule_of b) w

-- the row of a palindrome, and none for any other word
abbrev pub RowOf : Word → Word → Option ℕ → Type 0
RowOf b w r = MatchOption r (Palindrome (rule_of b) w → ⊥) (IsRowOf b w)

-- q lies further down the links than r: it spells a shorter end of what r spells. A root lies below itself
pub record Below (b : Word) (r q : ℕ) : Type 0 where
  pub used : used_in b q ≡ true
  pub ends : Suffix (word_in b q) (word_in b r)
  pub shorter : length (word_in b q) ≤ length (word_in b r) - 1

-- each row has a row further down; 0 wherever none was set
pub record Jumps (b jumps : Word) : Type 0 where
  pub long : length jumps ≡ 1026
  pub each : (r : ℕ) → used_in b r ≡ true → Below b r (slice_index jumps r)

-- the row spells an end of the first `end` letters, and of those ends every palindrome w is an end of what the row spells
pub record Near (b : Word) (end : ℕ) (w : Word) (row : ℕ) : Type 0 where
  pub used : used_in b row ≡ true
  pub ends : Suffix (word_in b row) (take end (letters_in b))
  pub all : Palindrome (rule_of b) w → Suffix w (word_in b row)

-- the way from a row that is too long to one that is shorter, for every end of the first `end` letters that has n letters
abbrev pub Leads : (b : Word) (n row next : ℕ) → Type 0
Leads b n row next = (end : ℕ) (w : Word) → Suffix w (take end (letters_in b)) → length w ≡ n → Near b end w row
    → Near b end w next × (length (word_in b next) < length (word_in b row))
