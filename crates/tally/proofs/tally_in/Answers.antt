-- Each count stands at its place.
use Rattle.palindromes.specs.Marks.{counts_read}
use Rattle.tally.proofs.tally_in.Goals as goal

pub returns : goal.returns
unfolding counts_read
returns c i =
    record {
      right = c.count_at.ensures i;
      repeated = c.count_at-2.ensures i;
      wrong = c.count_at-3.ensures i;
      missing = c.count_at-4.ensures i;
    }
