-- `end_rows::rows_at_ends` reads the letters from left to right; what stands behind the right ends is kept.
use Rattle.std.proofs.Common.{◌≢◌, ◌<◌, length, arith, length-set, get_or-set_same, get_or-set_other, below_more}
use Rattle.transitions.proofs.Rows.{used-small}
use Rattle.walk.proofs.Replaying.{told, told-all}
use Rattle.end_rows.proofs.rows_at_ends.Invariants.{EndsTo}
use Rattle.end_rows.proofs.rows_at_ends.Goals as goal

pub loop-k-init : goal.loop-k-init
loop-k-init c =
    let new = c.new-k-items.ensures in
    rw c.into_iter-k-iterator.ensures.into_iter_gives
    (new.ready, tt, new.of_store, rw new.first record { long = c.requires.b_in_bounds; each = λ j h. absurd (omega arith) })

pub overflow_cast-ends : goal.overflow_cast-ends
overflow_cast-ends c =
    let next = told c.loop-k.invariant.2 c.in-Some.ensures.steps c.in-Some.ensures.goes.keeps in
    omega (arith, used-small c.requires.good c.in-Some.row next.holds.used)

pub loop-k-preserved : goal.loop-k-preserved
loop-k-preserved c =
    let i = c.loop-k.invariant in
    let next = told i.2 c.in-Some.ensures.steps c.in-Some.ensures.goes.keeps in
    let before : EndsTo c.args.b.now c.in-Some.k c.loop-k.ends = rw (← next.from-is) i.3 in
    let inside : c.in-Some.k < length c.loop-k.ends = omega (arith, next.more, before.long) in (
      c.in-Some.ensures.goes.keeps,
      tt,
      next.store-is,
      rw next.read-is record {
        long = omega (arith, before.long, length-set c.loop-k.ends c.in-Some.k c.in-Some.row);
        each = below_more _ _ (λ j h. let other : j ≢ c.in-Some.k = omega arith in rw get_or-set_other (before.each j h)) (rw get_or-set_same next.holds);
      },
    )

pub returns : goal.returns
returns c =
    let i = c.loop-k.invariant in
    let all = told-all i.2 i.0 c.in-None.ensures.steps in
    record { long = i.3.long; each = λ k l. i.3.each k (omega (arith, all)) }
