-- DEFINITIONS. Records with their printed pages, byte by byte: 02 (iv) "an empty record gives the two outer lines alone", "the last line stops after its last letter". 1, 10, 11, 60 and 61 letters. Nothing here is proved.
use Rattle.std.specs.Prelude.{ℕ, List, [], ◌∷◌, ◌++◌, replicate}
use Rattle.palindromes.specs.Word.{Word}
use Rattle.known_answers.specs.KnownAnswer.{A, C, G, T}

-- letters, and the page that they are printed as
pub record KnownPage : Type 0 where
  pub letters : Word
  pub page : Word

-- ten letters, a group of them behind its blank, and as many columns of blanks
abbrev ten : Word
ten = A ∷ C ∷ G ∷ T ∷ T ∷ G ∷ C ∷ A ∷ A ∷ C ∷ []

abbrev group : Word
group = 32 ∷ 97 ∷ 99 ∷ 103 ∷ 116 ∷ 116 ∷ 103 ∷ 99 ∷ 97 ∷ 97 ∷ 99 ∷ []

abbrev blanks : ℕ → Word
blanks n = replicate n 32

abbrev lf : Word
lf = 10 ∷ []

-- lines of letters between ORIGIN and //
abbrev between : Word → Word
between lines = (79 ∷ 82 ∷ 73 ∷ 71 ∷ 73 ∷ 78 ∷ 10 ∷ []) ++ lines ++ (47 ∷ 47 ∷ 10 ∷ [])

abbrev sixty : Word
sixty = ten ++ ten ++ ten ++ ten ++ ten ++ ten

abbrev full_line : Word
full_line = blanks 8 ++ (49 ∷ []) ++ group ++ group ++ group ++ group ++ group ++ group ++ lf

unfoldable pub pages : List KnownPage
pages =
    record { letters = []; page = between [] }
    ∷ record { letters = G ∷ []; page = between (blanks 8 ++ (49 ∷ 32 ∷ 103 ∷ []) ++ lf) }
    ∷ record { letters = ten; page = between (blanks 8 ++ (49 ∷ []) ++ group ++ lf) }
    ∷ record { letters = ten ++ (T ∷ []); page = between (blanks 8 ++ (49 ∷ []) ++ group ++ (32 ∷ 116 ∷ []) ++ lf) }
    ∷ record { letters = sixty; page = between full_line }
    ∷ record { letters = sixty ++ (T ∷ []); page = between (full_line ++ blanks 7 ++ (54 ∷ 49 ∷ 32 ∷ 116 ∷ []) ++ lf) }
    ∷ []
