-- `listing::window_length` reads the letters from left to right, with marks that begin empty. Assumes nothing.
use Rattle.std.proofs.lemmas.List.{length-replicate}
use Rattle.std.proofs.Common.{◌≡◌, ℕ, ◌+◌, ◌*◌, length, replicate, refl, ap, arith}
use Rattle.std.proofs.Math.ListN.{get_or-replicate}
use Rattle.listing.specs.Listing.{length_below}
use Rattle.walk.proofs.Replaying.{told, told-all}
use Rattle.listing.proofs.Marking.{reads_first}
use Rattle.listing.proofs.Lines.{line-is, line-starts, line_small}
use Rattle.listing.proofs.Windows.{within_new, within-old}
use Rattle.listing.proofs.window_length.Invariants.{AddedTo}
use Rattle.listing.proofs.window_length.Goals as goal

pub loop-k-init : goal.loop-k-init
unfolding length_below
loop-k-init c =
    let new = c.new-k-items.ensures in
    let none = reads_first c.requires.good c.args.from (replicate 43 0) λ i h k. get_or-replicate 43 i 0 0 (omega (arith, k, length-replicate {A = ℕ} 43 0)) in
    rw c.into_iter-k-iterator.ensures.into_iter_gives (
      new.ready,
      tt,
      new.of_store,
      rw (new.first, new.first_row) record { reads = none; total-is = refl; small = omega arith },
    )

pub overflow_sub-end : goal.overflow_sub-end
overflow_sub-end c =
    let next = told c.loop-k.invariant.2 c.in-Some.ensures.steps c.in-Some.ensures.goes.keeps in
    line-starts next.holds c.spelling_length.ensures

pub line_length-total-requires : goal.line_length-total-requires
line_length-total-requires c =
    let next = told c.loop-k.invariant.2 c.in-Some.ensures.steps c.in-Some.ensures.goes.keeps in
    line_small c.requires.good c.args.name.now c.in-Some.k next.more c.spelling_length.result c.requires.name_value

pub loop-k-preserved-then-meet : goal.loop-k-preserved-then-meet
loop-k-preserved-then-meet c =
    let g = c.requires.good in
    let name = c.args.name.now in
    let from = c.args.from in
    let k = c.in-Some.k in
    let i = c.loop-k in
    let next = told i.invariant.2 c.in-Some.ensures.steps c.in-Some.ensures.goes.keeps in
    let last = i.k-iterator.row in
    let before : AddedTo c.args.b.now name from k last i.marks i.total = rw (← next.from-is) i.invariant.3 in
    let met = c.meet.ensures k last next.more before.reads next.holds in
    let window-end : from + 344 ≡ from + 8 * length i.marks = omega arith in
    let line = c.line_length-total.ensures in
    let is = line-is next.holds c.spelling_length.ensures name in
    let adds = within_new g name met i.total (from + 344) window-end before.total-is c.if-meet.true in
    (c.in-Some.ensures.goes.keeps, tt, next.store-is, rw (next.read-is, next.row-is) record { reads = met.reads; total-is = omega (arith, line.0, ap length is, adds); small = omega (arith, before.small, line.1) })

pub loop-k-preserved : goal.loop-k-preserved
loop-k-preserved c =
    let g = c.requires.good in
    let name = c.args.name.now in
    let from = c.args.from in
    let k = c.in-Some.k in
    let i = c.loop-k in
    let next = told i.invariant.2 c.in-Some.ensures.steps c.in-Some.ensures.goes.keeps in
    let last = i.k-iterator.row in
    let before : AddedTo c.args.b.now name from k last i.marks i.total = rw (← next.from-is) i.invariant.3 in
    let met = c.meet.ensures k last next.more before.reads next.holds in
    let window-end : from + 344 ≡ from + 8 * length i.marks = omega arith in
    (c.in-Some.ensures.goes.keeps, tt, next.store-is, rw (next.read-is, next.row-is) record { reads = met.reads; total-is = within-old g name met i.total (from + 344) window-end before.total-is c.if-meet.false; small = omega (arith, before.small) })

pub returns : goal.returns
returns c =
    let i = c.loop-k.invariant in
    rw (← told-all i.2 i.0 c.in-None.ensures.steps) i.3.total-is
