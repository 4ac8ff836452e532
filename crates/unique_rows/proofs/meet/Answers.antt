-- `unique_rows::meet` marks a row that was met before, or a new one and its link. Assumes nothing.
use Rattle.std.proofs.Common.{sym, arith, length-set}
use Rattle.transitions.proofs.Rows.{used-fits, row_below, link-below}
use Rattle.unique_rows.proofs.Marks.{again, again-old, first, first-new}
use Rattle.unique_rows.proofs.meet.Goals as goal

pub bounds-marks-row : goal.bounds-marks-row
bounds-marks-row c = omega (arith, row_below c.requires.good c.args.row c.requires.row_value.0)

pub returns-then-marks-row-ne0 : goal.returns-then-marks-row-ne0
returns-then-marks-row-ne0 c k l h a =
    let g = c.requires.good in
    let n = c.if-marks-row-ne0.true in
    (again g l h a n, sym (again-old g l h a n))

pub link_of-requires : goal.link_of-requires
link_of-requires c = used-fits c.requires.good c.args.row c.requires.row_value.0

pub bounds-marks-link_of : goal.bounds-marks-link_of
bounds-marks-link_of c = omega (arith, link-below c.requires.good c.args.row c.requires.row_value.0 c.link_of.ensures.0)

pub bounds-marks-row-2 : goal.bounds-marks-row-2
bounds-marks-row-2 c = simp length-set (omega (arith, row_below c.requires.good c.args.row c.requires.row_value.0))

pub returns : goal.returns
returns c k l h a =
    let g = c.requires.good in
    let n = c.if-marks-row-ne0.false in
    (first g l h a n c.link_of.ensures.0, sym (first-new g l h a n))
