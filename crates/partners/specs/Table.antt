-- DEFINITIONS. Tables of partners, of all bytes and of the four letters. Nothing here is proved.
use Rattle.std.specs.Prelude.{ℕ, ◌/◌, ◌%◌, ◌<◌, ◌≡◌, true, List, get_or}
use Rattle.palindromes.specs.Word.{is_letter}
use Rattle.palindromes.specs.Reading.{rule_in}

-- the table has at each byte the byte's partner in the reading m
abbrev pub PartnersIn : ℕ → List ℕ → Type 0
PartnersIn m t = (c : ℕ) → c < 256 → get_or t c 0 ≡ rule_in m c

-- the place of a letter in a table of the four: 0 for A, 1 for C, 2 for T, 3 for G
abbrev pub place_of : ℕ → ℕ
place_of c = c / 2 % 4

-- the table has at each letter's place the letter's partner in the reading m
abbrev pub LetterPartners : ℕ → List ℕ → Type 0
LetterPartners m t = (c : ℕ) → is_letter c ≡ true → get_or t (place_of c) 0 ≡ rule_in m c
