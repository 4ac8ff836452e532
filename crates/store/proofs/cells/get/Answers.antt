use Rattle.std.proofs.Common.{arith}
use Rattle.store.specs.Layout.{cell}
use Rattle.store.proofs.cells.get.Goals as goal

pub returns : goal.returns
unfolding cell
returns c = omega arith
