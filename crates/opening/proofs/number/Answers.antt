-- One row more.

use Rattle.opening.proofs.Openings.{order-none, order-more}
use Rattle.opening.proofs.number.Goals as goal

pub loop-k-init : goal.loop-k-init
loop-k-init c = order-none c.args.b.now

pub loop-k-preserved : goal.loop-k-preserved
loop-k-preserved c = cc (order-more c.args.b.now c.loop-k.k)
