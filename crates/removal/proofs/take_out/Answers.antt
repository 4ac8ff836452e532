-- The palindrome goes: its row is the end's, and lies within the store before and after the letter has left.
use Rattle.std.proofs.Common.{length, arith}
use Rattle.store.specs.Side.{end_of}
use Rattle.walk.proofs.Stores.{header-fits, framed-within}
use Rattle.transitions.specs.Removal.{longest_before}
use Rattle.transitions.proofs.RemovedBytes.{gone-high, gone-length}
use Rattle.length_counts.proofs.Carrying.{count_fits}
use Rattle.removal.proofs.Removals.{goes, leaf-left, removed-gone}
use Rattle.removal.proofs.take_out.Goals as goal

pub without-lengths-requires-clause-q_value : goal.without-lengths-requires-clause-q_value
without-lengths-requires-clause-q_value c =
    let g = c.requires.good in
    let e = end_of c.args.side in
    let gone = goes c.requires.parts.0 c.requires.parts.1 in
    (cc (gone.1, (g.ends e).used), omega (arith, gone.1, gone-high e g gone.0))

pub leave-requires : goal.leave-requires
leave-requires c =
    let f = c.frame_of-f.ensures in
    ((framed-within f c.requires.good.sized c.frame_of-f.result.n (omega (arith, f.size_is))).letters, omega (arith, f.size_is, c.requires.b_nonzero))

pub free-requires : goal.free-requires
free-requires c =
    let gone = goes c.requires.parts.0 c.requires.parts.1 in
    leaf-left c.requires.good (end_of c.args.side) c.frame_of-f.result.n c.frame_of-f.ensures.base-is gone.1 gone.0 c.leave.ensures

pub put-requires : goal.put-requires
put-requires c =
    let g = c.requires.good in
    let e = end_of c.args.side in
    let gone = goes c.requires.parts.0 c.requires.parts.1 in
    omega (
      arith,
      count_fits g (length (longest_before e c.args.b.now)) (gone-length e g gone.0).1,
      (c.without-lengths.ensures e gone.0 gone.1).length-is,
      c.leave.auto.b,
      c.free.auto,
    )

pub settle-requires : goal.settle-requires
settle-requires c = omega (arith, header-fits c.requires.good.sized, c.leave.auto.b, c.free.auto.b, c.put.auto)

pub returns : goal.returns
returns c =
    let e = end_of c.args.side in
    let f = c.frame_of-f.ensures in
    let h = c.requires.parts.0 in
    let gone = goes h c.requires.parts.1 in
    removed-gone c.requires.good e f.base-is f.size_is gone.1 gone.0 h.last-is h.opposite-is (c.without-lengths.ensures e gone.0 gone.1)
    c.leave.ensures c.free.ensures c.put.ensures c.settle.ensures
