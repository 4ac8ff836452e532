-- A row's number is added to its link's, if neither is a root's.
use Rattle.std.proofs.Common.{◌≤◌, ◌<◌, refl, arith}
use borrow.Author.Tests.{lt-ltb, le-ltb}
use Rattle.transitions.proofs.Rows.{used-fits, row_below, link-below}
use Rattle.frequencies.proofs.hand_on.Goals as goal
use Rattle.frequencies.proofs.hand_on.Goals.{then-link-gt-EMPTY, else-link-gt-EMPTY}

pub offset_bounds-counts-row : goal.offset_bounds-counts-row
offset_bounds-counts-row c = omega (arith, row_below c.requires.good c.args.row c.requires.handable.used)

pub bounds-counts-row : goal.bounds-counts-row
bounds-counts-row c = omega (arith, row_below c.requires.good c.args.row c.requires.handable.used, c.requires.handable.long)

pub link_of-link-requires : goal.link_of-link-requires
link_of-link-requires c = used-fits c.requires.good c.args.row c.requires.handable.used

pub bounds-counts-link : goal.bounds-counts-link
bounds-counts-link c =
    omega (arith, link-below c.requires.good c.args.row c.requires.handable.used c.link_of-link.ensures.0, c.requires.handable.long)

pub bounds-counts-link-then-link-gt-EMPTY : goal.bounds-counts-link-then-link-gt-EMPTY
bounds-counts-link-then-link-gt-EMPTY c =
    omega (arith, link-below c.requires.good c.args.row c.requires.handable.used c.link_of-link.ensures.0, c.requires.handable.long)

pub returns : goal.returns
returns c =
    let e = c.link_of-link.ensures.0 in
    let high : 2 ≤ c.args.row = omega arith in
    elim c.if-link-gt-EMPTY.branch [
      | then-link-gt-EMPTY w ↦
          let above : 2 ≤ c.link_of-link.result = omega (arith, w.if-link-gt-EMPTY.true) in
          rw (w.counts-is, ← e, le-ltb c.args.row 2 high, le-ltb c.link_of-link.result 2 above) (refl, refl)
      | else-link-gt-EMPTY w ↦
          let root : c.link_of-link.result < 2 = omega (arith, w.if-link-gt-EMPTY.false) in
          rw (w.counts-is, ← e, le-ltb c.args.row 2 high, lt-ltb c.link_of-link.result 2 root) (refl, refl)
    ]
