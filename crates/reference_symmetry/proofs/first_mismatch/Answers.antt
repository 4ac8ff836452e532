-- All pairs decide.
use Rattle.std.proofs.Common.{refl, sym}
use Rattle.palindromes.proofs.Mismatch.{mismatch-whole}
use Rattle.reference_symmetry.proofs.first_mismatch.Goals as goal

pub returns : goal.returns
returns c = sym (mismatch-whole _ _ _ _ refl c.first_mismatch.ensures)
