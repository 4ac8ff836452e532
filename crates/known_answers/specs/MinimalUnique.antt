-- DEFINITIONS. Records with their minimal unique repeats: 02 (viii) "ACGA gives 1 to 2 and 2 to 3"; a double, whose inner stretch is empty; 003
-- figure 1, with A for a and C for b; and inverted records, 02 (vi)'s GAATTC among them. Nothing here is proved.
use Rattle.std.specs.Prelude.{ℕ, List, [], ◌∷◌}
use Rattle.palindromes.specs.Word.{Word}
use Rattle.palindromes.specs.Palindrome.{plain}
use Rattle.palindromes.specs.Reading.{complement}
use Rattle.palindromes.specs.Interval.{Interval, interval}
use Rattle.known_answers.specs.KnownAnswer.{A, C, G, T}

-- a partner rule and letters, where their minimal unique repeats stand, and this in bytes
pub record KnownList : Type 0 where
  pub rule : ℕ → ℕ
  pub letters : Word
  pub listed : List Interval
  pub bytes : Word

unfoldable pub lists : List KnownList
lists =
    record { rule = plain; letters = []; listed = []; bytes = [] }
    ∷ record {
      rule = plain;
      letters = A ∷ C ∷ G ∷ A ∷ [];
      listed = interval 1 2 ∷ interval 2 3 ∷ [];
      bytes = 1 ∷ 0 ∷ 2 ∷ 0 ∷ 2 ∷ 0 ∷ 3 ∷ 0 ∷ [];
    }
    ∷ record { rule = plain; letters = A ∷ A ∷ []; listed = interval 0 2 ∷ []; bytes = 0 ∷ 0 ∷ 2 ∷ 0 ∷ [] }
    ∷ record {
      rule = plain;
      letters = A ∷ A ∷ A ∷ C ∷ A ∷ C ∷ A ∷ C ∷ A ∷ C ∷ C ∷ A ∷ C ∷ C ∷ [];
      listed = interval 0 3 ∷ interval 2 9 ∷ interval 3 10 ∷ interval 8 12 ∷ interval 9 14 ∷ [];
      bytes = 0 ∷ 0 ∷ 3 ∷ 0 ∷ 2 ∷ 0 ∷ 9 ∷ 0 ∷ 3 ∷ 0 ∷ 10 ∷ 0 ∷ 8 ∷ 0 ∷ 12 ∷ 0 ∷ 9 ∷ 0 ∷ 14 ∷ 0 ∷ [];
    }
    ∷ record { rule = complement; letters = G ∷ A ∷ A ∷ T ∷ T ∷ C ∷ []; listed = interval 2 4 ∷ []; bytes = 2 ∷ 0 ∷ 4 ∷ 0 ∷ [] }
    ∷ record { rule = complement; letters = A ∷ T ∷ A ∷ T ∷ []; listed = interval 1 3 ∷ []; bytes = 1 ∷ 0 ∷ 3 ∷ 0 ∷ [] }
    ∷ record { rule = complement; letters = A ∷ G ∷ T ∷ C ∷ T ∷ []; listed = []; bytes = [] }
    ∷ []
