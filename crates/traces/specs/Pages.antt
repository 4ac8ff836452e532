-- DEFINITIONS. What is claimed of the printed page after every list of calls: 02 (iv). s is the letters that follow from the arguments and b the store; the reading is not among them. Nothing here is proved.
use Rattle.std.specs.Prelude.{◌≤◌, ◌≡◌, length}
use Rattle.palindromes.specs.Word.{Word}
use Rattle.palindromes.specs.Genbank.{genbank}
use Rattle.palindromes.specs.Refusal.{page}
use Rattle.outcome.specs.Reply.{tells}
use Rattle.genbank.specs.ReadBack.{read_back}
use Rattle.traces.specs.Writes.{Writes}

-- the page of the letters is written, or "a buffer too short for the page is refused with 9"; it can be read back to the letters, and 1,317 bytes are always
-- enough
pub record Pages (s b : Word) : Type 0 where
  pub printed : Writes page (tells (length (genbank s))) (genbank s) b
  pub read : read_back (genbank s) ≡ s
  pub most : length (genbank s) ≤ 1317
