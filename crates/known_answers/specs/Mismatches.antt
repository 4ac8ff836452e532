-- DEFINITIONS. Where a piece and its reversal disagree, as find answers it: 02 (x) "CCAC gives 2", in a record in which it stands and in one that is shorter; a pair further out; pieces that read alike, found and absent, an odd one
-- among them; an odd piece of an inverted record, whose middle letter is its last pair, and one that breaks before it; and refusals. Each is claimed for every capacity from the letters of the record up to 1,024. Nothing
-- here is proved.
use Rattle.std.specs.Prelude.{List, [], ◌∷◌}
use Rattle.palindromes.specs.Word.{Word}
use Rattle.palindromes.specs.Palindrome.{plain}
use Rattle.palindromes.specs.Reading.{complement}
use Rattle.palindromes.specs.Node.{spelt}
use Rattle.known_answers.specs.KnownAnswer.{look, refused, found, absent, KnownAnswer, from, A, C, G, T, ACCACG, AGTCT}

abbrev CCAC : Word
CCAC = C ∷ C ∷ A ∷ C ∷ []

unfoldable pub mismatches : List KnownAnswer
mismatches =
    from plain 6 ACCACG (look CCAC) (absent 2)
    ∷ from plain 1 (A ∷ []) (look CCAC) (absent 2)
    ∷ from plain 6 ACCACG (look ACCACG) (absent 1)
    ∷ from plain 6 ACCACG (look (C ∷ A ∷ C ∷ [])) (found (spelt (C ∷ A ∷ C ∷ [])) 0)
    ∷ from plain 6 ACCACG (look (A ∷ C ∷ A ∷ [])) (absent 0)
    ∷ from plain 5 AGTCT (look AGTCT) (absent 1)
    ∷ from complement 5 AGTCT (look AGTCT) (absent 3)
    ∷ from complement 5 AGTCT (look (A ∷ G ∷ T ∷ [])) (absent 2)
    ∷ from complement 5 AGTCT (look (G ∷ T ∷ C ∷ T ∷ [])) (absent 1)
    ∷ from complement 5 AGTCT (look (A ∷ T ∷ [])) (absent 0)
    ∷ from plain 1 [] (look []) (refused 8)
    ∷ from plain 1 [] (look (78 ∷ C ∷ [])) (refused 4)
    ∷ []
