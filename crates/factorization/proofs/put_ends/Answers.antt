use Rattle.std.proofs.Common.{◌-◌, ◌<◌, ◌∙◌, arith}
use Rattle.transitions.proofs.Rows.{size-most}
use Rattle.walk.proofs.Stores.{header-fits}
use Rattle.factorization.proofs.Tracing.{two-stored, traced-first, traced-last, traced-more, place-back, falls}
use Rattle.factorization.proofs.put_ends.Goals as goal

pub size-end-requires : goal.size-end-requires
size-end-requires c = header-fits c.requires.good.0.sized

pub loop-end-init : goal.loop-end-init
loop-end-init c =
    let s = c.requires in
    rw c.size-end.ensures.0 (traced-first s.good.0 s.last_starts s.good.1 c.args.out.now s.number_value.0 s.number_value.1)

-- two bytes are left for this end
pub overflow_sub-at : goal.overflow_sub-at
overflow_sub-at c =
    let s = c.requires in
    omega (arith, place-back s.good.0 s.last_starts c.loop-end.invariant (omega arith))

pub slice_bounds-copy_from_slice-end : goal.slice_bounds-copy_from_slice-end
slice_bounds-copy_from_slice-end c =
    let s = c.requires in
    let two = place-back s.good.0 s.last_starts c.loop-end.invariant (omega arith) in
    omega arith

pub loop-end-smaller : goal.loop-end-smaller
loop-end-smaller c =
    let s = c.requires in
    rw c.from-end.ensures (falls s.good.0 s.last_starts c.loop-end.end (omega arith) c.loop-end.invariant.inside)

pub loop-end-preserved : goal.loop-end-preserved
loop-end-preserved c =
    let s = c.requires in
    let two = place-back s.good.0 s.last_starts c.loop-end.invariant (omega arith) in
    let small : c.loop-end.end < 65536 = omega (arith, size-most s.good.0, c.loop-end.invariant.inside) in
    let at = c.loop-end.at - 2 in
    let bytes = c.copy_from_slice.ensures.after ∙ c.to_le_bytes.ensures in
    rw (two-stored c.loop-end.out at c.loop-end.end (omega (arith, c.loop-end.invariant.room)) small bytes, c.from-end.ensures)
    (traced-more s.good.0 s.last_starts c.loop-end.invariant (omega arith))

pub returns : goal.returns
returns c =
    let s = c.requires in
    traced-last s.good.0 s.last_starts c.loop-end.invariant (omega arith)
