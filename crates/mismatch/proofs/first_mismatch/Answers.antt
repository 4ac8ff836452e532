-- `mismatch::first_mismatch` leaves its loop at the first pair that disagrees.
use Rattle.std.proofs.Common.{arith, sym, ◌∙◌}
use Rattle.palindromes.specs.Mismatch.{first-at}
use Rattle.mismatch.proofs.first_mismatch.Goals as goal

pub returns-then-w-k : goal.returns-then-w-k
returns-then-w-k c =
    first-at c.loop-k.k c.loop-k-test.true c.loop-k.invariant (λ a. c.if-w-k.true (a ∙ sym c.partner.ensures)) (omega arith)
