-- DEFINITIONS. Texts of uncertain bases with their two lengths: 02 (xii) "in ANT they are 2 and 1; for empty text both are 0"; an uncertain middle, which
-- faces itself; codes that share no base; small letters. And bytes that are no codes, "U among them". Nothing here is proved.
use Rattle.std.specs.Prelude.{ℕ, List, [], ◌∷◌}
use Rattle.palindromes.specs.Word.{Word}
use Rattle.known_answers.specs.KnownAnswer.{A, C, G, T}

-- a text, and the lengths of its longest stretches that are mirror repeats for some choice and for every choice
pub record KnownLengths : Type 0 where
  pub text : Word
  pub some : ℕ
  pub every : ℕ

-- the codes that the texts have beside the letters
abbrev N : ℕ
N = 78

abbrev R : ℕ
R = 82

abbrev Y : ℕ
Y = 89

unfoldable pub texts : List KnownLengths
texts =
    record { text = []; some = 0; every = 0 }
    ∷ record { text = A ∷ N ∷ T ∷ []; some = 2; every = 1 }
    ∷ record { text = A ∷ R ∷ A ∷ []; some = 3; every = 3 }
    ∷ record { text = N ∷ []; some = 1; every = 1 }
    ∷ record { text = N ∷ N ∷ []; some = 2; every = 1 }
    ∷ record { text = R ∷ Y ∷ []; some = 1; every = 1 }
    ∷ record { text = 110 ∷ 114 ∷ 121 ∷ []; some = 3; every = 1 }  -- nry
    ∷ record { text = A ∷ C ∷ 99 ∷ 97 ∷ G ∷ []; some = 4; every = 4 }  -- ACcaG
    ∷ []

-- U and X in either case, a dash, a star and 0
unfoldable pub no_codes : Word
no_codes = 85 ∷ 117 ∷ 88 ∷ 120 ∷ 45 ∷ 42 ∷ 0 ∷ []
