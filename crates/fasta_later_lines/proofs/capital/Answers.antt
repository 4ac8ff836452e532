-- The letter that a byte is read as.
use Rattle.fasta_later_lines.proofs.Upper.{capital-is}
use Rattle.fasta_later_lines.proofs.capital.Goals as goal

pub returns : goal.returns
returns c = capital-is _ c.requires
