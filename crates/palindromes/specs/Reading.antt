-- DEFINITIONS. How a record is read, and the partner rule of each reading. Nothing here is proved.
use Rattle.std.specs.Prelude.{ℕ, cond, eqb}
use Rattle.palindromes.specs.Palindrome.{plain}

-- 01's records, and those of 02 (vi): "a second way of opening makes a record that reads this way"
pub data Reading : Type 0 where
  as_plain as_inverted : Reading

-- 02 (vi) "each letter is replaced by its partner: A with T, C with G"; "bytes other than the four letters partner themselves". 001 remark 2.8, 004 definition 2
unfoldable pub complement : ℕ → ℕ
complement x = cond (eqb x 65) 84 (cond (eqb x 84) 65 (cond (eqb x 67) 71 (cond (eqb x 71) 67 x)))

-- the number that stands for a reading in a store
unfoldable pub reading_number : Reading → ℕ
reading_number as_plain = 0
reading_number as_inverted = 1

-- the partner rule of the reading that a number stands for: 1 for an inverted record, and any other for a plain one. A good store has no other than 0 and 1
unfoldable pub rule_in : ℕ → ℕ → ℕ
rule_in m x = cond (eqb m 1) (complement x) (plain x)
