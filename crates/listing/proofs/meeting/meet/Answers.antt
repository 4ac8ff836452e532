-- `listing::meeting::meet` marks the row that a letter leads to, if it is no root. Assumes nothing.
use Rattle.std.proofs.Common.{arith}
use borrow.Author.Tests.{le-ltb}
use Rattle.transitions.proofs.Rows.{used-fits}
use Rattle.listing.proofs.Marking.{reads-root, reads-marked}
use Rattle.listing.proofs.meeting.meet.Goals as goal

pub rank_of-requires : goal.rank_of-requires
rank_of-requires c = used-fits c.requires.good c.args.row c.requires.row_value

pub returns-then-row-gt-EMPTY : goal.returns-then-row-gt-EMPTY
returns-then-row-gt-EMPTY c k last l a h =
    reads-marked c.requires.good l a h c.if-row-gt-EMPTY.true c.rank_of.ensures.0 c.mark.ensures.first c.mark.ensures.marked

pub returns-else-row-gt-EMPTY : goal.returns-else-row-gt-EMPTY
returns-else-row-gt-EMPTY c k last l a h =
    rw (le-ltb 1 c.args.row c.if-row-gt-EMPTY.false) (reads-root c.requires.good l a h (omega arith))
