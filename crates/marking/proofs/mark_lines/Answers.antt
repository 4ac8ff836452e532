-- Marking goes on line by line, by the laws of `Counting`.
use Rattle.std.proofs.Common.{sym, ◌∙◌, arith}
use Rattle.walk.proofs.Stores.{header-fits}
use Rattle.line_marks.proofs.Naming.{none_named}
use Rattle.marking.proofs.Counting.{stop-most, counting-first, not-ended, bad-line, good-line, all-counted}
use Rattle.marking.proofs.mark_lines.Goals as goal

pub loop-at-init : goal.loop-at-init
loop-at-init c = counting-first c.args.rows.good _ _ _ (none_named c.args.rows.good _ c.requires.marks_value)

pub overflow_add-stop : goal.overflow_add-stop
overflow_add-stop c = omega (arith, stop-most c.args.sheet.now c.loop-at.at c.find_byte.result c.find_byte.ensures c.loop-at.invariant.within)

pub returns-then-sheet-stop : goal.returns-then-sheet-stop
returns-then-sheet-stop c =
    not-ended c.args.rows.good _ _ c.loop-at.invariant c.find_byte.ensures c.loop-at-test.true c.if-sheet-stop.true

pub returns-in_err-x : goal.returns-in_err-x
returns-in_err-x c =
    c.from_residual.ensures
    ∙ bad-line c.args.rows.good _ _ c.loop-at.invariant c.find_byte.ensures c.if-sheet-stop.false (sym c.parse.ensures ∙ c.in_err-x.was)

pub loop-at-preserved : goal.loop-at-preserved
loop-at-preserved c =
    good-line c.args.rows.good _ _ c.loop-at.invariant c.find_byte.ensures c.if-sheet-stop.false
    (sym c.parse.ensures ∙ c.in_ok-x.was) c.count_line-above.ensures

pub count-requires : goal.count-requires
count-requires c = header-fits c.args.rows.good.sized

pub returns : goal.returns
returns c = all-counted c.args.rows.good _ _ c.loop-at.invariant c.loop-at-test.false c.count.ensures.0
