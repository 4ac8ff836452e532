-- DEFINITIONS. An answer of two numbers of three bytes, for sums that two bytes do not hold: 02 (iii) "both answered by one call". Nothing here is proved.
use Rattle.std.specs.Prelude.{ℕ, ◌+◌, ◌*◌, ◌/◌, ◌%◌, false}
use Rattle.outcome.specs.Reply.{Answer, answer}

-- bytes 2 to 4 the first sum and 5 to 7 the second, over the fields that the other answers have there: the row takes two bytes of the first sum, the first number its third byte and the lowest of the second
unfoldable pub wide_answer : ℕ → ℕ → Answer
wide_answer x y = answer false (x % 65536) (x / 65536 + 256 * (y % 256)) (y / 256)

-- what a host reads in the number: `mirror_by_rows` and `mirror_by_ends` of include/mirror.h
abbrev pub by_rows_in : ℕ → ℕ
by_rows_in x = x / 65536 % 16777216

abbrev pub by_ends_in : ℕ → ℕ
by_ends_in x = x / 1099511627776
