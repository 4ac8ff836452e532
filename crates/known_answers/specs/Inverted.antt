-- DEFINITIONS. Known answers of inverted records: 02 (vi) "GAATTC has three: AT, AATT and GAATTC", a record without a repeat, and source 004's AGTCT, whose letters face
-- their partners but for the one in the middle. Each is claimed for every capacity from the most letters that stand before or after the call, and at
-- least 1, up to 1,024. Nothing here is proved.
use Rattle.std.specs.Prelude.{List, [], ◌∷◌}
use Rattle.palindromes.specs.Word.{Word}
use Rattle.palindromes.specs.Reading.{complement}
use Rattle.palindromes.specs.End.{at_left, at_right}
use Rattle.palindromes.specs.Node.{spelt}
use Rattle.known_answers.specs.KnownAnswer.{how_many, which_longest, addition, removal, the_link, the_inner, look, refused, number, length_at, comes_in, goes_out, row, found, absent, KnownAnswer, from, A, C, G, T, AGTCT}

abbrev AT : Word
AT = A ∷ T ∷ []

abbrev AATT : Word
AATT = A ∷ A ∷ T ∷ T ∷ []

abbrev GAATT : Word
GAATT = G ∷ A ∷ A ∷ T ∷ T ∷ []

abbrev GAATTC : Word
GAATTC = G ∷ A ∷ A ∷ T ∷ T ∷ C ∷ []

unfoldable pub inverted : List KnownAnswer
inverted =
    from complement 6 GAATTC how_many (number 3)
    ∷ from complement 6 GAATTC (look AT) (found (spelt AT) 0)
    ∷ from complement 6 GAATTC (look AATT) (found (spelt AATT) 0)
    ∷ from complement 6 GAATTC (look GAATTC) (found (spelt GAATTC) 0)
    ∷ from complement 6 GAATTC (look (A ∷ [])) (absent 1)
    ∷ from complement 6 GAATTC which_longest (length_at 6 0)
    ∷ from complement 6 GAATTC (the_inner AATT) (row (spelt AT))
    ∷ from complement 6 GAATTC (the_inner AT) (row (spelt []))
    ∷ from complement 6 GAATTC (the_link GAATTC) (row (spelt []))
    ∷ from complement 6 GAATT (addition at_right C) (comes_in (GAATTC ∷ []) 3)
    ∷ from complement 6 GAATTC (removal at_left) (goes_out G (GAATTC ∷ []) 2)
    ∷ from complement 2 (G ∷ []) (addition at_left A) (comes_in [] 0)
    ∷ from complement 5 AGTCT how_many (number 0)
    ∷ from complement 5 AGTCT which_longest (length_at 0 0)
    ∷ from complement 5 AGTCT (removal at_right) (goes_out T [] 0)
    ∷ from complement 1 [] which_longest (refused 6)
    ∷ []
