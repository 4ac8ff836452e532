use Rattle.std.proofs.Common.{sym, ◌∙◌}
use Rattle.reference_places.proofs.Pieces.{starts-slice}
use Rattle.reference_places.proofs.begins_with.Goals as goal

pub returns : goal.returns
returns c = c.starts_with.ensures.value ∙ sym (starts-slice _ _)
