-- DEFINITIONS. What additions at the right of a plain record pass in their search: 02 (xiii) "AC reaches it with 3", 1 and 2; A after A, where the empty string serves; C after AA, where the imaginary one
-- does; C after ACA and A after ACAC, where a repeat serves; and refusals, which report nothing. Each is claimed for every capacity from the letters after the call up to 1,024, those of a full record
-- for that capacity. Nothing here is proved.
use Rattle.std.specs.Prelude.{List, [], ◌∷◌}
use Rattle.palindromes.specs.Palindrome.{plain}
use Rattle.known_answers.specs.KnownAnswer.{search, refused, number, KnownAnswer, from, A, C}

unfoldable pub searches : List KnownAnswer
searches =
    from plain 1 [] (search A) (number 1)
    ∷ from plain 2 (A ∷ []) (search C) (number 2)
    ∷ from plain 2 (A ∷ []) (search A) (number 1)
    ∷ from plain 3 (A ∷ A ∷ []) (search C) (number 3)
    ∷ from plain 4 (A ∷ C ∷ A ∷ []) (search C) (number 1)
    ∷ from plain 5 (A ∷ C ∷ A ∷ C ∷ []) (search A) (number 0)
    ∷ from plain 1 [] (search 78) (refused 4)
    ∷ record { rule = plain; letters = A ∷ []; least = 1; most = 1; query = search C; known = refused 5 }
    ∷ []
