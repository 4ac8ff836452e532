-- What the contracts say of a letter that is to join an end of a good store: the row around which it makes the longest palindrome there, whether that is new, and the row to write for it.
use Rattle.std.specs.Prelude.{ℕ, ◌≡◌, true, false, Option}
use Rattle.palindromes.specs.Word.{Word}
use Rattle.palindromes.specs.End.{End, at_right, letter_at}
use Rattle.palindromes.specs.Node.{spelt, length_of, link_of, inner_of, around}
use Rattle.palindromes.specs.SearchSteps.{search_steps}
use Rattle.store.specs.Layout.{used_in}
use Rattle.store.specs.Good.{rule_of, node_in}
use Rattle.store.specs.Lengths.{Stored}
use Rattle.store.specs.Side.{pick}
use Rattle.store.specs.declared.rows.Row.{Row}
use Rattle.walk.specs.Replay.{letters_towards, steps_towards}
use Rattle.walk.specs.Walk.{Found}
use Rattle.transitions.specs.Rows.{row_of}
use Rattle.transitions.specs.Addition.{longest_after, brings_in}
use Rattle.growth.specs.declared.Growth.{Growth}
use Rattle.growth.specs.declared.Growth.TheVariants.{Fresh, Stood}

-- the letter that is read next towards an end where c joins it, p being c's partner: at the left end letters are read as their partners
abbrev pub read_as : End → (c p : ℕ) → ℕ
read_as e c p = pick e p c

-- the word that the letter d makes around row u
abbrev pub made : Word → (d u : ℕ) → Word
made b d u = around (rule_of b) d (node_in b u)

-- the row of a word's link
abbrev pub link_row : Word → Word → ℕ
link_row b v = row_of b (link_of (rule_of b) (spelt v))

-- the used row around which the letter d, read next towards an end, makes the longest palindrome; or that it makes none
abbrev pub Met : Word → End → ℕ → Option ℕ → Type 0
Met b e d o = Found (rule_of b) (used_in b) (node_in b) (letters_towards b e) d o

-- as many candidates as the search for the letter d passes, read next towards an end
abbrev pub Passed : Word → End → (d n : ℕ) → Type 0
Passed b e d n = n ≡ search_steps (rule_of b) d (letters_towards b e)

-- what the row of a new palindrome v is to say
pub record RowFor (b v : Word) (row : Row) : Type 0 where
  pub length-is : row.length ≡ length_of (spelt v)
  pub link-is : row.link ≡ link_row b v
  pub inner-is : row.inner ≡ row_of b (inner_of (spelt v))
  pub outer-is : row.outer ≡ letter_at at_right v
  pub inner-used : used_in b row.inner ≡ true
  pub small : Stored row.length

-- the letter c brings in a palindrome at an end, and this is the row to write for it
pub record FreshIs (b : Word) (e : End) (c : ℕ) (row : Row) : Type 0 where
  pub new : brings_in e c b ≡ true
  pub row-for : RowFor b (longest_after e c b) row

-- it brings in none, and this is the row of the longest there
pub record StoodIs (b : Word) (e : End) (c q : ℕ) : Type 0 where
  pub old : brings_in e c b ≡ false
  pub used : used_in b q ≡ true
  pub holds : node_in b q ≡ spelt (longest_after e c b)

-- what the letter c makes at an end, and how many candidates the search for it passes
abbrev pub Grown : Word → End → ℕ → Growth → Type 0
Grown b e c (Fresh row n) = FreshIs b e c row × (n ≡ steps_towards b e c)
Grown b e c (Stood q n) = StoodIs b e c q × (n ≡ steps_towards b e c)
