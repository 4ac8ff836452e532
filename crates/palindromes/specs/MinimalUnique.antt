-- DEFINITIONS. The minimal unique palindromes of a record, by where they stand: 02 (viii); 003 section 5.1 "minimal unique palindromic substrings".
-- Nothing here is proved.
use Rattle.std.specs.Prelude.{ℕ, Bool, ◌&&◌, ◌||◌, List, ltb}
use Rattle.palindromes.specs.Word.{Word, is_empty, keep}
use Rattle.palindromes.specs.Palindrome.{is_palindrome}
use Rattle.palindromes.specs.Place.{frequency, stands_once}
use Rattle.palindromes.specs.End.{without_first, without_last}
use Rattle.palindromes.specs.Interval.{Interval, word_at, intervals}

-- 02 "inner stretch": the stretch without its first and its last letter, empty where it has one letter or two; 003 "S[i+1..j-1]"
unfoldable pub inner_word : Word → Word
inner_word w = without_first (without_last w)

-- 02 "whose inner stretch is empty, as a single letter's counts here, or stands at least twice"; 003 "S[i+1..j-1] is repeating in S"
unfoldable pub is_repeating : Word → Word → Bool
is_repeating v s = is_empty v || ltb 1 (frequency v s)

-- 02 "mirror repeats, stand once only, and whose inner stretch [..]"; 003 "a palindrome, [..] unique in S, and S[i+1..j-1] is repeating in S"
unfoldable pub is_minimal_unique : (ℕ → ℕ) → Word → Word → Bool
is_minimal_unique σ s w = is_palindrome σ w && stands_once w s && is_repeating (inner_word w) s

-- 02 "ordered by start and then by end, every such stretch exactly once"; 003 "MUPS(S)"
unfoldable pub minimal_unique : (ℕ → ℕ) → Word → List Interval
minimal_unique σ s = keep (λ i. is_minimal_unique σ s (word_at s i)) (intervals s)
