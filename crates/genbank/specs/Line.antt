-- DEFINITIONS. A printed line held as an array of six arrays of ten bytes. Nothing here is proved.
use Rattle.std.specs.Prelude.{ℕ, ◌*◌, ◌<◌, ◌≡◌, List, [], map, length, get_or, take, drop}
use Rattle.palindromes.specs.Word.{Word}
use Rattle.palindromes.specs.Genbank.{lower}

-- group number g of a line's letters, from 0
abbrev pub group_at : ℕ → Word → Word
group_at g w = take 10 (drop (10 * g) w)

-- six arrays of ten bytes
pub record SixOfTen (line : List Word) : Type 0 where
  pub six : length line ≡ 6
  pub ten : (g : ℕ) → g < 6 → length (get_or line g []) ≡ 10

-- array number g has a group's letters in front, in lower case
abbrev pub Holds : List Word → ℕ → Word → Type 0
Holds line g w = take (length (group_at g w)) (get_or line g []) ≡ map lower (group_at g w)

-- a line's letters stand in the arrays, group by group
pub record Line (w : Word) (line : List Word) : Type 0 where
  pub shape : SixOfTen line
  pub each : (g : ℕ) → 10 * g < length w → Holds line g w
