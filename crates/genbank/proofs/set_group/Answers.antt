-- `genbank::set_group` takes the letters one by one.
use Rattle.std.proofs.Common.{◌<◌, arith, length}
use Rattle.genbank.proofs.Groups.{letter-more}
use Rattle.genbank.proofs.set_group.Goals as goal

pub loop-i-preserved : goal.loop-i-preserved
loop-i-preserved c =
    let row : c.args.g < length c.args.line.now = omega (arith, c.requires.0.six) in
    rw c.lower.ensures (letter-more c.args.line.now c.loop-i.line c.args.g c.loop-i.i c.args.w.now row c.loop-i-test.true c.loop-i.invariant)
