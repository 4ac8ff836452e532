-- DEFINITIONS. The starred sittings of document 01, "Sittings with known keys", in its order. Where the paper names no capacity, a key is claimed for
-- every capacity from the most letters that stand before or after the call, and at least 1, up to 1,024. Nothing here is proved.
use Rattle.std.specs.Prelude.{List, [], ◌∷◌}
use Rattle.palindromes.specs.Word.{Word}
use Rattle.palindromes.specs.Palindrome.{plain}
use Rattle.palindromes.specs.End.{at_left, at_right}
use Rattle.palindromes.specs.Node.{spelt}
use Rattle.known_answers.specs.KnownAnswer.{how_many, which_longest, addition, removal, the_link, the_inner, look, refused, number, length_at, comes_in, goes_out, row, found, absent, KnownAnswer, from, A, C, G, ACCACG}

abbrev AAAA : Word
AAAA = A ∷ A ∷ A ∷ A ∷ []

abbrev ACGA : Word
ACGA = A ∷ C ∷ G ∷ A ∷ []

abbrev ACGAAG : Word
ACGAAG = A ∷ C ∷ G ∷ A ∷ A ∷ G ∷ []

unfoldable pub starred : List KnownAnswer
starred =
    from plain 1 [] how_many (number 0)
    ∷ record { rule = plain; letters = A ∷ []; least = 1; most = 1; query = addition at_right C; known = refused 5 }
    ∷ from plain 4 AAAA how_many (number 4)
    ∷ from plain 4 AAAA which_longest (length_at 4 0)
    ∷ from plain 4 AAAA (removal at_right) (goes_out A (AAAA ∷ []) 3)
    ∷ from plain 4 ACGA how_many (number 3)
    ∷ from plain 4 ACGA (removal at_left) (goes_out A [] 3)
    ∷ from plain 4 (A ∷ C ∷ A ∷ []) (addition at_right C) (comes_in ((C ∷ A ∷ C ∷ []) ∷ []) 4)
    ∷ from plain 4 (A ∷ C ∷ A ∷ C ∷ []) (removal at_left) (goes_out A ((A ∷ C ∷ A ∷ []) ∷ []) 3)
    ∷ from plain 5 ACGA (addition at_left G) (comes_in [] 3)
    ∷ from plain 6 ACCACG how_many (number 6)
    ∷ from plain 6 ACCACG (the_link (A ∷ C ∷ C ∷ A ∷ [])) (row (spelt (A ∷ [])))
    ∷ from plain 6 ACCACG (the_inner (A ∷ C ∷ C ∷ A ∷ [])) (row (spelt (C ∷ C ∷ [])))
    ∷ from plain 6 ACGAAG how_many (number 5)
    ∷ from plain 6 ACGAAG which_longest (length_at 4 2)
    ∷ from plain 6 ACCACG (look (C ∷ C ∷ [])) (found (spelt (C ∷ C ∷ [])) 0)
    ∷ from plain 6 ACCACG (look (G ∷ G ∷ [])) (absent 0)
    ∷ []
