-- `genbank::page_length` answers the page's length.
use Rattle.std.proofs.Common.{arith}
use Rattle.genbank.proofs.Size.{page-size}
use Rattle.genbank.proofs.page_length.Goals as goal

pub returns : goal.returns
returns c s e = omega (arith, page-size s (omega (arith, e, c.requires)))
