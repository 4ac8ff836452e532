-- DEFINITIONS. The fifteen NC-IUB codes of uncertain bases, the bases that each stands for and its four-bit set: 02 (xii). Nothing here is proved.
use Rattle.std.specs.Prelude.{ℕ, zero, ◌+◌, Bool, true, cond, ◌&&◌, ◌||◌, not, List, [], ◌∷◌, eqb}
use Rattle.std.specs.Int.Count.{ones}
use Rattle.palindromes.specs.Word.{Word, is_empty}

-- a code's capital letter and the bases that it stands for
pub record Code : Type 0 where
  pub letter : ℕ
  pub bases : Word

abbrev code : ℕ → Word → Code
code letter bases = record { letter = letter; bases = bases }

-- 02 (xii) "the fifteen NC-IUB codes, each standing for a set of A, C, G and T: R is A or G, Y CT, M AC, K GT, S CG, W AT, B CGT, D AGT, H ACT,
-- V ACG, N any of them"
unfoldable pub codes : List Code
codes =
    code 65 (65 ∷ [])  -- A
    ∷ code 67 (67 ∷ [])  -- C
    ∷ code 71 (71 ∷ [])  -- G
    ∷ code 84 (84 ∷ [])  -- T
    ∷ code 82 (65 ∷ 71 ∷ [])  -- R
    ∷ code 89 (67 ∷ 84 ∷ [])  -- Y
    ∷ code 77 (65 ∷ 67 ∷ [])  -- M
    ∷ code 75 (71 ∷ 84 ∷ [])  -- K
    ∷ code 83 (67 ∷ 71 ∷ [])  -- S
    ∷ code 87 (65 ∷ 84 ∷ [])  -- W
    ∷ code 66 (67 ∷ 71 ∷ 84 ∷ [])  -- B
    ∷ code 68 (65 ∷ 71 ∷ 84 ∷ [])  -- D
    ∷ code 72 (65 ∷ 67 ∷ 84 ∷ [])  -- H
    ∷ code 86 (65 ∷ 67 ∷ 71 ∷ [])  -- V
    ∷ code 78 (65 ∷ 67 ∷ 71 ∷ 84 ∷ [])  -- N
    ∷ []

-- the bases of a byte by a list of codes, "either case"; none for a byte that is no code, "U among them"
unfoldable pub bases_in : List Code → ℕ → Word
bases_in [] x = []
bases_in (c ∷ cs) x = cond (eqb x c.letter || eqb x (c.letter + 32)) c.bases (bases_in cs x)

unfoldable pub bases_of : ℕ → Word
bases_of x = bases_in codes x

unfoldable pub is_code : ℕ → Bool
is_code x = not (is_empty (bases_of x))

unfoldable pub all_codes : Word → Bool
all_codes [] = true
all_codes (x ∷ s) = is_code x && all_codes s

-- ---- four-bit sets

-- the bit of a base: A 1, C 2, G 4, T 8
unfoldable pub bit_of : ℕ → ℕ
bit_of b = cond (eqb b 65) 1 (cond (eqb b 67) 2 (cond (eqb b 71) 4 (cond (eqb b 84) 8 0)))

unfoldable pub four_bits : Word → ℕ
four_bits [] = zero
four_bits (b ∷ w) = bit_of b + four_bits w

-- 02 (xii) "its four-bit set", 0 for a byte that is no code
unfoldable pub set_of : ℕ → ℕ
set_of x = four_bits (bases_of x)

-- 02 (xii) "the number of bases a code stands for is the count of ones in its four-bit set"
unfoldable pub number_of_bases : ℕ → ℕ
number_of_bases x = ones (set_of x)

-- 01 "one means certain"
unfoldable pub is_certain : ℕ → Bool
is_certain x = eqb (number_of_bases x) 1
