-- DEFINITIONS. The two lengths of a text of codes, in the plain reading: 02 (xii). Nothing here is proved.
use Rattle.std.specs.Prelude.{ℕ, Bool, true, false, ◌&&◌, ◌||◌, List, [], ◌∷◌, map, length}
use Rattle.palindromes.specs.Word.{Word, keep}
use Rattle.palindromes.specs.Palindrome.{plain, Palindrome, is_palindrome}
use Rattle.palindromes.specs.Record.{stretches, greatest, longest_length}
use Rattle.ambiguity.specs.Choice.{Choice, choices}

-- the test holds of some word of the list, of every one
unfoldable pub of_some : (Word → Bool) → List Word → Bool
of_some p [] = false
of_some p (w ∷ ws) = p w || of_some p ws

unfoldable pub of_every : (Word → Bool) → List Word → Bool
of_every p [] = true
of_every p (w ∷ ws) = p w && of_every p ws

-- 02 (xii) "a mirror repeat for some choice of bases"
pub record MirrorForSome (w : Word) : Type 0 where
  pub choice : Word
  pub chosen : Choice choice w
  pub palindrome : Palindrome plain choice

unfoldable pub is_mirror_for_some : Word → Bool
is_mirror_for_some w = of_some (is_palindrome plain) (choices w)

-- 02 (xii) "one for every choice"
abbrev pub MirrorForEvery : Word → Type 0
MirrorForEvery w = (u : Word) → Choice u w → Palindrome plain u

unfoldable pub is_mirror_for_every : Word → Bool
is_mirror_for_every w = of_every (is_palindrome plain) (choices w)

-- the length of the longest stretch that passes the test, 0 where none does
unfoldable pub longest_passing : (Word → Bool) → Word → ℕ
longest_passing p s = greatest (map length (keep p (stretches s)))

-- 02 (xii) "two lengths: of the longest stretch that is a mirror repeat for some choice of bases, .., and of the longest that is one for every choice";
-- "for empty text both are 0"
unfoldable pub longest_for_some : Word → ℕ
longest_for_some s = longest_passing is_mirror_for_some s

unfoldable pub longest_for_every : Word → ℕ
longest_for_every s = longest_passing is_mirror_for_every s

-- 02 (xii) "the greatest length found over all choices"
unfoldable pub longest_over_choices : Word → ℕ
longest_over_choices s = greatest (map (longest_length plain) (choices s))
