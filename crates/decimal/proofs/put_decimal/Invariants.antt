-- The loop of `decimal::put_decimal`: with the digits that are left stored too, the buffer is what it is to be at the end, and i is the place of the last
-- of them. The measure is what is left of the number.
use Rattle.std.proofs.Common.{◌≡◌, ◌+◌, ◌<◌, length}
use Rattle.std.proofs.lemmas.List.Edits.{sets}
use Rattle.palindromes.specs.Bed.{decimal}
use Rattle.decimal.proofs.put_decimal.Given as goal

abbrev pub invariant-loop-left : goal.invariant-loop-left
invariant-loop-left l =
    record {
      place : l.i + 1 ≡ l.at + length (decimal l.left);
      before : l.i < l.end;
      stored : sets l.out l.at (decimal l.left) ≡ sets l.initial.out l.at (decimal l.n);
    }

abbrev pub decreases-loop-left : goal.decreases-loop-left
decreases-loop-left l = l.left
