-- Where a test fails a good store would have passed it, and where all pass the store is good and its ends are known (`Whole`, `Passes`). Assumes nothing.
use Rattle.audit_fixed.proofs.Parts.{good-roots}
use Rattle.audit_tour.proofs.Marks.{blank}
use Rattle.audit.proofs.Whole.{passed-good}
use Rattle.audit.proofs.Passes.{good-rows, good-ends}
use Rattle.audit.proofs.examine.Goals as goal
use Rattle.audit.proofs.examine.Goals.{else-ends_right-via-then-ends_right+else-rows_right, else-ends_right-via-else-ends_right}

pub returns-then-not-can_start : goal.returns-then-not-can_start
returns-then-not-can_start c g =
    c.if-not-can_start.ensures (record { header = record { sized = g.sized; reading = g.reading }; letters = g.letters; places = g.free-places; roots = good-roots g })

pub replay-requires-clause-blank : goal.replay-requires-clause-blank
replay-requires-clause-blank c = (blank, blank)

pub returns-then-rows_right : goal.returns-then-rows_right
returns-then-rows_right c = passed-good c.if-not-can_start.ensures c.in_ok-tour.ensures c.if-rows_right.ensures c.if-ends_right.ensures

pub returns-else-ends_right : goal.returns-else-ends_right
returns-else-ends_right c g =
    elim c.else-ends_right.branch [
      | else-ends_right-via-then-ends_right+else-rows_right w ↦ w.if-rows_right.ensures (good-rows g c.in_ok-tour.ensures)
      | else-ends_right-via-else-ends_right w ↦ w.if-ends_right.ensures (good-ends g c.in_ok-tour.ensures)
    ]
