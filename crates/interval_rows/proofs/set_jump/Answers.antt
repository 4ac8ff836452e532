use Rattle.std.proofs.Common.{⊎_elim, arith, length-set}
use Rattle.transitions.proofs.Rows.{used-fits, row_below}
use Rattle.interval_rows.proofs.Ways.{link-used, jump-used, jumps-set}
use Rattle.interval_rows.proofs.set_jump.Goals as goal

pub link_of-near-requires : goal.link_of-near-requires
link_of-near-requires c = used-fits c.requires.good c.args.row c.requires.row_value

pub bounds-jumps-near : goal.bounds-jumps-near
bounds-jumps-near c =
    let s = c.requires in
    omega (arith, (link-used s.good c.args.row s.row_value c.link_of-near.ensures.0).1, s.jumps.0.long)

pub bounds-jumps-far : goal.bounds-jumps-far
bounds-jumps-far c =
    let s = c.requires in
    let near = link-used s.good c.args.row s.row_value c.link_of-near.ensures.0 in
    omega (arith, (jump-used s.good c.link_of-near.result s.jumps.0 near.0 c.from-far.ensures).1, s.jumps.0.long)

pub bounds-depths-near : goal.bounds-depths-near
bounds-depths-near c =
    let s = c.requires in
    omega (arith, (link-used s.good c.args.row s.row_value c.link_of-near.ensures.0).1, s.jumps.1)

pub offset_bounds-depths-row : goal.offset_bounds-depths-row
offset_bounds-depths-row c = omega (arith, row_below c.requires.good c.args.row c.requires.row_value)

pub bounds-depths-row : goal.bounds-depths-row
bounds-depths-row c = omega (arith, row_below c.requires.good c.args.row c.requires.row_value, c.requires.jumps.1)

pub landing-requires : goal.landing-requires
landing-requires c =
    let s = c.requires in
    let near = link-used s.good c.args.row s.row_value c.link_of-near.ensures.0 in
    let far = jump-used s.good c.link_of-near.result s.jumps.0 near.0 c.from-far.ensures in
    let further = jump-used s.good c.from-far.result s.jumps.0 far.0 c.from-further.ensures in
    simp length-set (omega (arith, near.1, s.jumps.1), omega (arith, far.1, s.jumps.1), omega (arith, further.1, s.jumps.1))

pub overflow_cast-jumps : goal.overflow_cast-jumps
overflow_cast-jumps c =
    let s = c.requires in
    let near = link-used s.good c.args.row s.row_value c.link_of-near.ensures.0 in
    let far = jump-used s.good c.link_of-near.result s.jumps.0 near.0 c.from-far.ensures in
    let further = jump-used s.good c.from-far.result s.jumps.0 far.0 c.from-further.ensures in
    ⊎_elim (λ e. omega (arith, e, near.1)) (λ e. omega (arith, e, further.1)) c.landing.ensures

pub offset_bounds-jumps-row : goal.offset_bounds-jumps-row
offset_bounds-jumps-row c = omega (arith, row_below c.requires.good c.args.row c.requires.row_value)

pub bounds-jumps-row : goal.bounds-jumps-row
bounds-jumps-row c = omega (arith, row_below c.requires.good c.args.row c.requires.row_value, c.requires.jumps.0.long)

pub returns : goal.returns
returns c =
    let s = c.requires in
    jumps-set s.good c.args.row c.link_of-near.result c.from-far.result c.from-further.result c.landing.result
    s.jumps.0 s.row_value c.link_of-near.ensures.0 c.from-far.ensures c.from-further.ensures c.landing.ensures
