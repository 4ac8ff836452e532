-- The header of a good store can be read.
use Rattle.walk.proofs.Stores.{header-fits}
use Rattle.spelling.proofs.spell.Goals as goal

pub reading-requires : goal.reading-requires
reading-requires c = header-fits c.requires.good.sized
