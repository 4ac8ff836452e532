-- The letter is put down, the row is hung and counted, and the ends are settled.
use Rattle.std.proofs.Common.{◌∙◌, length, arith}
use Rattle.store.specs.Side.{end_of}
use Rattle.walk.proofs.Stores.{header-fits, store_long}
use Rattle.transitions.specs.Addition.{longest_after}
use Rattle.transitions.proofs.Rows.{used-fits}
use Rattle.transitions.proofs.AddedWord.{longest-room}
use Rattle.length_counts.proofs.Carrying.{count_fits}
use Rattle.insertion.proofs.Insertions.{place-fits, free-fits, free-is, length-new, added_new}
use Rattle.insertion.proofs.insert.Goals as goal

pub count-count-requires : goal.count-count-requires
count-count-requires c = header-fits c.requires.good.sized

pub order_of-r-requires : goal.order_of-r-requires
order_of-r-requires c = omega (arith, c.count-count.ensures.0, place-fits c.requires.good c.requires.b_bound)

pub across-opposite-requires : goal.across-opposite-requires
across-opposite-requires c = let z = c.requires.good.sized in (header-fits z, omega (arith, z.at_most))

pub join-requires : goal.join-requires
join-requires c = omega (arith, c.frame_of-f.ensures.base-is, store_long c.requires.good.sized)

pub hang-requires : goal.hang-requires
hang-requires c =
    let good = c.requires.good in
    let h = header-fits good.sized in
    let f = free-fits good c.requires.b_bound in
    let row = c.requires.fresh_is.row-for in
    let u = used-fits good c.args.row.inner row.inner-used in
    let taken = free-is c.args.b.now c.count-count.ensures.0 c.order_of-r.ensures.0 in
    record { in_bounds = (omega arith, omega arith, omega arith); count_bound = (omega (arith, c.count-count.ensures.1), row.small) }

pub gain-requires : goal.gain-requires
gain-requires c =
    let a = c.args in
    let good = c.requires.good in
    let new = longest_after (end_of a.side) a.c a.b.now in
    let room = longest-room good c.requires.b_bound (end_of a.side) a.c in
    let most = good.sized.at_most in
    record {
      letters = length new;
      is = length-new c.requires.fresh_is;
      small = omega arith;
      inside = omega (arith, count_fits good (length new) room);
    }

pub overflow_add-f-2 : goal.overflow_add-f-2
overflow_add-f-2 c = omega (arith, c.requires.good.sized.at_most)

pub settle-requires : goal.settle-requires
settle-requires c = omega (arith, header-fits c.requires.good.sized)

pub returns : goal.returns
returns c =
    let a = c.args in
    let good = c.requires.good in
    let f = c.frame_of-f.ensures in
    let fresh = c.requires.fresh_is in
    let is = length-new fresh in
    let taken = free-is a.b.now c.count-count.ensures.0 c.order_of-r.ensures.0 in (
      added_new good c.requires.b_bound (end_of a.side) a.c f.base-is f.size_is c.count-count.ensures.0 taken fresh
          (c.across-opposite.ensures (length (longest_after (end_of a.side) a.c a.b.now)) is) c.join.ensures c.hang.ensures
          (λ k e. c.gain.ensures k (is ∙ e)) c.settle.ensures,
      taken,
    )
