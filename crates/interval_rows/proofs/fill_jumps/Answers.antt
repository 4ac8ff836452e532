use Rattle.std.proofs.Common.{ℕ, ◌<◌, refl, arith}
use Rattle.std.proofs.lemmas.List.{get_or-take, length-take}
use Rattle.store.specs.Layout.{size_in}
use Rattle.walk.proofs.Stores.{header-fits}
use Rattle.interval_rows.proofs.Ways.{jumps-first}
use Rattle.interval_rows.proofs.fill_jumps.Goals as goal

pub size-requires : goal.size-requires
size-requires c = header-fits c.requires.good.sized

pub loop-end-init : goal.loop-end-init
loop-end-init c = record { set = jumps-first c.requires.good c.requires.jumps_value; deep = refl }

pub set_jump-requires-clause-row_value : goal.set_jump-requires-clause-row_value
set_jump-requires-clause-row_value c =
    let l : c.loop-end.end-index < c.size.result = omega (arith, length-take {A = ℕ}) in
    let m : c.loop-end.end-index < size_in c.args.b.now = omega (arith, c.size.ensures.0) in
    rw (c.from.ensures, get_or-take c.size.result c.args.ends.now c.loop-end.end-index 0 l) (c.requires.end_rows.each c.loop-end.end-index m).used
