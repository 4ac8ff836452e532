-- DEFINITIONS. The bytes that the program mirrorlist prints for a text. Nothing here is proved.
use Rattle.std.specs.Prelude.{cond, ltb, length}
use Rattle.palindromes.specs.Word.{Word}
use Rattle.palindromes.specs.Fasta.{read_fasta}
use Rattle.refusal_line.specs.RefusalLine.{refused_line}
use Rattle.text_printing.specs.PrintedFor.{printed_for}

-- 01 "program, before reading on": 12 for more than 65,536 bytes
unfoldable pub printed : Word → Word
printed text = cond (ltb 65536 (length text)) (refused_line 12) (printed_for (read_fasta text) text)
