-- DEFINITIONS. Where a piece stands in a record. Nothing here is proved.
use Rattle.std.specs.Prelude.{ℕ, zero, suc, ◌≡◌, Bool, true, false, cond, ◌&&◌, List, [], ◌∷◌, ◌++◌, eqb, ltb, length}
use Rattle.palindromes.specs.Word.{Word}

-- the piece stands in the record: 01 "stretch of the record"; 001 section 1.1 "substring"
pub record Stands (p s : Word) : Type 0 where
  pub before : Word
  pub after : Word
  pub whole : before ++ p ++ after ≡ s

-- the record begins with the piece; 001 section 1.1 "prefix"
pub record Prefix (p s : Word) : Type 0 where
  pub after : Word
  pub whole : p ++ after ≡ s

-- the record ends with the piece; 001 section 1.1 "suffix"
pub record Suffix (p s : Word) : Type 0 where
  pub before : Word
  pub whole : before ++ p ≡ s

-- the test of `Prefix`
unfoldable pub starts_with : Word → Word → Bool
starts_with [] s = true
starts_with (x ∷ p) [] = false
starts_with (x ∷ p) (y ∷ s) = eqb x y && starts_with p s

-- the places of p in s, if s's first letter has the place k
unfoldable pub places_from : ℕ → Word → Word → List ℕ
places_from k p [] = cond (starts_with p []) (k ∷ []) []
places_from k p (x ∷ s) = cond (starts_with p (x ∷ s)) (k ∷ places_from (suc k) p s) (places_from (suc k) p s)

-- every place at which the piece begins, from the left: 01 "places counted from 0 at the left"; 000 section 2.1 "occurrence"
unfoldable pub places : Word → Word → List ℕ
places p s = places_from zero p s

-- the number of places at which the piece stands: 02 (iii) "how often each repeat stands"; 001 section 2.4 "occ"
unfoldable pub frequency : Word → Word → ℕ
frequency p s = length (places p s)

unfoldable pub stands : Word → Word → Bool
stands p s = ltb zero (frequency p s)

-- 01 "stands once only"; 003 section 2 "unique"
unfoldable pub stands_once : Word → Word → Bool
stands_once p s = eqb (frequency p s) 1

-- the first of a list of numbers, 0 where there is none
unfoldable pub first : List ℕ → ℕ
first [] = zero
first (k ∷ ks) = k

-- 01 "first place": the places of one piece end in the order in which they begin, so the smallest end is the smallest start
unfoldable pub first_place : Word → Word → ℕ
first_place p s = first (places p s)
