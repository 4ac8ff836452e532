-- Every palindrome stays, so the letter goes alone.
use Rattle.std.proofs.Common.{arith}
use Rattle.store.specs.Side.{end_of}
use Rattle.walk.proofs.Stores.{header-fits, framed-within}
use Rattle.removal.proofs.Removals.{stays, removed-kept}
use Rattle.removal.proofs.leave_rows.Goals as goal

pub leave-requires : goal.leave-requires
leave-requires c =
    let f = c.frame_of-f.ensures in
    ((framed-within f c.requires.good.sized c.frame_of-f.result.n (omega (arith, f.size_is))).letters, omega (arith, f.size_is, c.requires.b_nonzero))

pub settle-requires : goal.settle-requires
settle-requires c = omega (arith, header-fits c.requires.good.sized, c.leave.auto)

pub returns : goal.returns
returns c =
    let f = c.frame_of-f.ensures in
    let h = c.requires.parts.0 in
    removed-kept c.requires.good (end_of c.args.side) f.base-is f.size_is (stays h c.requires.parts.1) h.last-is h.opposite-is c.leave.ensures c.settle.ensures
