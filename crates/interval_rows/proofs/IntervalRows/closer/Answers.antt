use Rattle.std.proofs.Common.{sym, subst, arith}
use Rattle.transitions.proofs.Rows.{used-fits, row_below}
use Rattle.interval_rows.specs.IntervalRow.{Leads}
use Rattle.interval_rows.proofs.Ways.{jump-used, near-link, near-far}
use Rattle.interval_rows.proofs.IntervalRows.closer.Goals as goal

pub offset_bounds-self-row : goal.offset_bounds-self-row
offset_bounds-self-row c = omega (arith, row_below c.args.self.good c.args.row c.requires.row_used)

pub bounds-self-row : goal.bounds-self-row
bounds-self-row c = omega (arith, row_below c.args.self.good c.args.row c.requires.row_used, c.args.self.jumps_down.long)

pub spelling_length-requires-clause-r_value : goal.spelling_length-requires-clause-r_value
spelling_length-requires-clause-r_value c = (jump-used c.args.self.good c.args.row c.args.self.jumps_down c.requires.row_used c.from-far.ensures).0

pub link_of-requires : goal.link_of-requires
link_of-requires c = used-fits c.args.self.good c.args.row c.requires.row_used

pub returns-then-n-spelling_length : goal.returns-then-n-spelling_length
returns-then-n-spelling_length c =
    let s = c.args.self in
    let below = rw (← c.from-far.ensures) at (s.jumps_down.each c.args.row c.requires.row_used) in
    near-far s.good below c.requires.row_longer (omega (arith, c.spelling_length.ensures))

pub returns-else-n-spelling_length : goal.returns-else-n-spelling_length
returns-else-n-spelling_length c =
    let s = c.args.self in
    subst (Leads s.store.now c.args.n c.args.row) (sym c.link_of.ensures.0) (near-link s.good c.requires.row_used c.requires.row_longer)
