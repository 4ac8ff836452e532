use Rattle.std.proofs.Common.{sym, ap, ◌∙◌, get_or, arith}
use lib.Dec.{eqb}
use borrow.Author.Tests.{ne_eqb}
use Rattle.transitions.proofs.Rows.{covers, row_below, used-fits}
use Rattle.minimal_unique.proofs.Rows.{not-once, once}
use Rattle.minimal_unique.proofs.is_minimal.Goals as goal

-- a row in use has a mark
pub bounds-marks-row : goal.bounds-marks-row
bounds-marks-row c = let s = c.requires in omega (arith, row_below s.good c.args.row s.row_value, s.marks.long)

pub inner_of-requires : goal.inner_of-requires
inner_of-requires c = used-fits c.requires.good c.args.row c.requires.row_value

-- and so has its inner row
pub bounds-marks-inner_of : goal.bounds-marks-inner_of
bounds-marks-inner_of c =
    let s = c.requires in
    omega (arith, c.inner_of.ensures.0, row_below s.good _ ((covers s.good).inner-is c.args.row s.row_value).0, s.marks.long)

pub returns-then-marks-row-eq1 : goal.returns-then-marks-row-eq1
returns-then-marks-row-eq1 c =
    let s = c.requires in
    ap (λ n. eqb (get_or c.args.marks.now n 0) 2) c.inner_of.ensures.0 ∙ sym (once s.good s.marks c.args.row s.row_value c.if-marks-row-eq1.true)

pub returns-else-marks-row-eq1 : goal.returns-else-marks-row-eq1
returns-else-marks-row-eq1 c =
    let s = c.requires in
    ne_eqb (get_or c.args.marks.now c.args.row 0) 1 c.if-marks-row-eq1.false ∙ sym (not-once s.good s.marks c.args.row s.row_value c.if-marks-row-eq1.false)
