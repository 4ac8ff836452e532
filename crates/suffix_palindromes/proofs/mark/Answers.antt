-- `suffix_palindromes::mark` marks the row it is given: a root not at all, the wanted row with 1, any other as its link. Assumes nothing.
use Rattle.std.proofs.Common.{arith}
use Rattle.palindromes.specs.Node.{spelling_of}
use Rattle.store.specs.Good.{node_in}
use Rattle.transitions.proofs.Rows.{used-fits, row_below, link-below}
use Rattle.suffix_palindromes.proofs.Handed.{ends-none, hands-root, marks-wanted, marks-other}
use Rattle.suffix_palindromes.proofs.mark.Goals as goal
use Rattle.suffix_palindromes.proofs.mark.Goals.{then-row-wanted, else-row-wanted}

pub returns-then-row-le-EMPTY : goal.returns-then-row-le-EMPTY
returns-then-row-le-EMPTY c = hands-root c.requires.good (ends-none (spelling_of (node_in c.args.b.now c.args.wanted))) (omega arith)

pub link_of-requires : goal.link_of-requires
link_of-requires c = used-fits c.requires.good c.args.row c.requires.row_value.0

pub bounds-marks-link_of : goal.bounds-marks-link_of
bounds-marks-link_of c = omega (arith, link-below c.requires.good c.args.row c.requires.row_value.0 c.link_of.ensures.0)

pub bounds-marks-row : goal.bounds-marks-row
bounds-marks-row c = omega (arith, row_below c.requires.good c.args.row c.requires.row_value.0)

pub returns : goal.returns
returns c =
    let p = c.requires in
    let used = p.wanted_value.0 in
    let high = p.wanted_value.1 in
    elim c.if-row-wanted.branch [
      | then-row-wanted w ↦ marks-wanted p.good used high (omega arith) w.if-row-wanted.true w.marked-is c.from.ensures
      | else-row-wanted w ↦ marks-other p.good used high (omega arith) w.if-row-wanted.false w.link_of.ensures.0 w.marked-is c.from.ensures
    ]
