-- What the contracts of src/lib.rt say of the numbers on their way to the frequencies. A number stands at a row for right ends: first for those at which the row's palindrome is the longest; then, row by
-- row and backwards in the order of meeting, those of a row are handed on to its link.
use Rattle.std.specs.Prelude.{ℕ, zero, suc, ◌+◌, ◌≤◌, ◌<◌, ◌≡◌, Bool, true, false, cond, ◌&&◌, ◌||◌, List, [], ◌∷◌, ltb, length, get_or, set, take}
use Rattle.palindromes.specs.Word.{Word, member}
use Rattle.palindromes.specs.Palindrome.{Palindrome}
use Rattle.palindromes.specs.Place.{Stands, frequency, stands}
use Rattle.palindromes.specs.Record.{suffixes}
use Rattle.palindromes.specs.Node.{spelt, spelling_of}
use Rattle.store.specs.Layout.{used_in, link_in, letters_in}
use Rattle.store.specs.Good.{rule_of, node_in}

-- the numbers at the places that pass the test, added up
unfoldable pub weigh : (ℕ → Bool) → List ℕ → ℕ
weigh f [] = zero
weigh f (x ∷ xs) = cond (f zero) x zero + weigh (λ r. f (suc r)) xs

-- the palindrome of row r, which is in use, ends with w
abbrev pub ends_with : Word → Word → ℕ → Bool
ends_with b w r = used_in b r && member w (suffixes (spelling_of (node_in b r)))

-- and it stands in the first k letters
abbrev pub open_with : Word → ℕ → Word → ℕ → Bool
open_with b k w r = stands (spelling_of (node_in b r)) (take k (letters_in b)) && ends_with b w r

-- once the rows are handed on that the letters after the first k bring in: those have their frequencies, and for any other palindrome its right ends are at the rows that end with it
pub record HandedFrom (b : Word) (k : ℕ) (counts : Word) : Type 0 where
  pub long : length counts ≡ 1026
  pub waiting : (w : Word) → Palindrome (rule_of b) w → Stands w (take k (letters_in b)) → weigh (open_with b k w) counts ≡ frequency w (letters_in b)
  pub done : (r : ℕ) (w : Word) → used_in b r ≡ true → 2 ≤ r → node_in b r ≡ spelt w → stands w (take k (letters_in b)) ≡ false → get_or counts r 0 ≡ frequency w (letters_in b)

-- row r can be handed on
pub record Handable (b counts : Word) (r : ℕ) : Type 0 where
  pub long : length counts ≡ 1026
  pub used : used_in b r ≡ true
  pub small : 2 ≤ r → get_or counts r 0 < 65536
  pub few : 2 ≤ r → 2 ≤ link_in b r → get_or counts (link_in b r) 0 + get_or counts r 0 < 65536

-- what is handed on, nothing of a root
abbrev pub handed : Word → ℕ → ℕ
handed counts r = cond (ltb r 2) 0 (get_or counts r 0)

-- the numbers after it: a root gets nothing
abbrev pub handed_on : Word → Word → ℕ → Word
handed_on b counts r = cond (ltb r 2 || ltb (link_in b r) 2) counts (set counts (link_in b r) (get_or counts (link_in b r) 0 + get_or counts r 0))
