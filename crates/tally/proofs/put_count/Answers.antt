-- The eight bytes are copied to their place.
use Rattle.std.proofs.Common.{◌∙◌}
use Rattle.tally.proofs.Bytes.{stored}
use Rattle.tally.proofs.put_count.Goals as goal

pub returns : goal.returns
returns c = stored _ _ _ _ c.requires (c.copy_from_slice.ensures.after ∙ c.to_le_bytes.ensures)
