-- The loop of `decimal::digits`: the digits that are counted and those of the rest are one more than the digits of the number, since the first digit is
-- counted from the beginning. The measure is the rest.
use Rattle.std.proofs.Common.{◌≡◌, ◌+◌, length}
use Rattle.palindromes.specs.Bed.{decimal}
use Rattle.decimal.proofs.digits.Given as goal

abbrev pub invariant-loop-rest : goal.invariant-loop-rest
invariant-loop-rest l = l.count + length (decimal l.rest) ≡ length (decimal l.n) + 1

abbrev pub decreases-loop-rest : goal.decreases-loop-rest
decreases-loop-rest l = l.rest
