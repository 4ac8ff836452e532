-- 02 (i): the exported reader answers a text, and leaves its buffer, as it does for the text with its later lines in capitals.
-- Rests on what the two texts say (`fasta`). Assumes nothing.
use Prim.Native.Nat.{ℕ}
use mathlib.Core.Path.{◌≡◌, sym, ap, ◌∙◌}
use lib.ListN.{length}
use Rattle.palindromes.specs.Word.{Word}
use Rattle.palindromes.specs.Fasta.{Fasta}
use Rattle.outcome.specs.Reply.{packed}
use Rattle.fasta.specs.Reader.{reading_of, written_to}
use Rattle.fasta.specs.Capitals.{upper_later_lines}
use Rattle.fasta.proofs.Capitals.{read_upper}
use Rattle.fasta_call.specs.Answer.{reading_reply, FastaPromise}

-- whatever the two calls answer and leave: their contracts are met by one number and one buffer only
pub same_answer : (text out : Word) {r r' : ℕ} {out₁ out₂ : Word} → FastaPromise text out r out₁ → FastaPromise (upper_later_lines text) out r' out₂ → (r ≡ r') × (out₁ ≡ out₂)
same_answer text out p q =
    let same = sym (read_upper text) in
    (p.reply ∙ ap (λ (f : Fasta). packed (reading_reply (reading_of f (length out)))) same ∙ sym q.reply, p.letters ∙ ap (λ (f : Fasta). written_to f out) same ∙ sym q.letters)
