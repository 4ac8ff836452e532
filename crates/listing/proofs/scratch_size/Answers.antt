-- `listing::scratch_size` is a bit for each letter, in whole bytes. Assumes nothing.
use Rattle.std.proofs.Common.{arith}
use Rattle.palindromes.specs.Refusal.{scratch_size}
use Rattle.store.proofs.Sizes.{letters-length}
use Rattle.walk.proofs.Stores.{header-fits}
use Rattle.listing.proofs.scratch_size.Goals as goal

pub size-requires : goal.size-requires
size-requires c = header-fits c.requires.sized

pub returns : goal.returns
unfolding scratch_size
returns c = omega (arith, letters-length c.requires.sized)
