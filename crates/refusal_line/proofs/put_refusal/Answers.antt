-- The line of a refusal is its words, the number's digits and an LF.
use Rattle.std.proofs.Common.{arith, ap, length}
use Rattle.std.proofs.Math.Seq.{length-sets}
use Rattle.decimal.proofs.Decimal.{at-most-five}
use Rattle.refusal_line.proofs.RefusalLine.{words, line-written, line-end, line-fits}
use Rattle.refusal_line.proofs.put_refusal.Goals as goal

pub put_decimal-end-requires : goal.put_decimal-end-requires
put_decimal-end-requires c =
    let w = c.copy-at.ensures in
    (c.requires.0, omega (arith, c.requires.1, w.behind, at-most-five c.args.number c.requires.0, ap length w.written, length-sets c.args.out.now 0 words))

pub bounds-out-end : goal.bounds-out-end
bounds-out-end c =
    let w = c.copy-at.ensures in
    let d = c.put_decimal-end.ensures in
    line-fits c.args.out.now _ _ _ _ c.args.number w.written w.behind d.written d.behind c.requires.0 c.requires.1

pub overflow_add-result : goal.overflow_add-result
overflow_add-result c =
    omega (arith, c.copy-at.ensures.behind, c.put_decimal-end.ensures.behind, at-most-five c.args.number c.requires.0)

pub returns-clause-written : goal.returns-clause-written
returns-clause-written c =
    let w = c.copy-at.ensures in
    let d = c.put_decimal-end.ensures in
    line-written c.args.out.now _ _ _ _ c.args.number w.written w.behind d.written d.behind

pub returns-clause-behind : goal.returns-clause-behind
returns-clause-behind c =
    let w = c.copy-at.ensures in
    let d = c.put_decimal-end.ensures in
    line-end c.args.out.now _ _ _ _ c.args.number w.written w.behind d.written d.behind
