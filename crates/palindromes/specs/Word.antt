-- DEFINITIONS. Letters, words and the tests on words that every other definition is made of. Nothing here is proved.
use Rattle.std.specs.Prelude.{ℕ, zero, suc, Bool, true, false, cond, ◌&&◌, ◌||◌, not, List, [], ◌∷◌, eqb}

-- a row of bytes, place 0 first: 01 "record", "piece", "stretch"; 001 section 1.1 "string", 000 section 2.1
abbrev pub Word : Type 0
Word = List ℕ

-- 01 "a letter is one of the bytes A 65, C 67, G 71, T 84"
unfoldable pub is_letter : ℕ → Bool
is_letter b = eqb b 65 || eqb b 67 || eqb b 71 || eqb b 84

-- the four letters, in the order in which 01 names them
unfoldable pub alphabet : List ℕ
alphabet = 65 ∷ 67 ∷ 71 ∷ 84 ∷ []

-- every byte of the word is a letter: what a record and an accepted piece are made of
unfoldable pub all_letters : Word → Bool
all_letters [] = true
all_letters (x ∷ w) = is_letter x && all_letters w

-- no letter at all: 01 "empty"; 001 section 1.1 "ε"
unfoldable pub is_empty : Word → Bool
is_empty [] = true
is_empty (x ∷ w) = false

-- the two words are equal letter by letter: 01 "two equal stretches are one repeat"
unfoldable pub same_word : Word → Word → Bool
same_word [] [] = true
same_word [] (y ∷ v) = false
same_word (x ∷ u) [] = false
same_word (x ∷ u) (y ∷ v) = eqb x y && same_word u v

-- where the two words disagree first, if the place of their first letters has the number k, and 0 where they do not
unfoldable pub mismatch_from : ℕ → Word → Word → ℕ
mismatch_from k [] [] = zero
mismatch_from k [] (y ∷ v) = k
mismatch_from k (x ∷ u) [] = k
mismatch_from k (x ∷ u) (y ∷ v) = cond (eqb x y) (mismatch_from (suc k) u v) k

-- the word is one of the list
unfoldable pub member : Word → List Word → Bool
member w [] = false
member w (v ∷ vs) = same_word w v || member w vs

-- those of the list that pass the test, in their order
unfoldable pub keep : {A : Type 0} → (A → Bool) → List A → List A
keep p [] = []
keep p (x ∷ xs) = cond (p x) (x ∷ keep p xs) (keep p xs)

-- each word of the list once, where it stands first
unfoldable pub distinct : List Word → List Word
distinct [] = []
distinct (w ∷ ws) = w ∷ keep (λ v. not (same_word v w)) (distinct ws)
