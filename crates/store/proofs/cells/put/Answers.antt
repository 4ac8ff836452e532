use Rattle.std.proofs.Common.{refl}
use Rattle.store.specs.Layout.{set_cell}
use Rattle.store.proofs.cells.put.Goals as goal

pub returns : goal.returns
unfolding set_cell
returns c = rw c.to_le_bytes.ensures refl
