-- The reader's answer is packed: what it says of the text, with a refusal by its number.
use Rattle.std.proofs.Common.{ap, ◌∙◌, arith}
use Rattle.outcome.specs.Reply.{packed}
use Rattle.fasta_call.specs.Answer.{reading_reply}
use Rattle.fasta_call.proofs.Answering.{small}
use Rattle.fasta_call.proofs.read_text.Goals as goal

pub pack-requires : goal.pack-requires
pack-requires c = let s = small c.args.text.now c.args.out.now c.in-Ok.ensures.0 in (omega arith, s.0, s.1)

pub returns-in-Ok : goal.returns-in-Ok
returns-in-Ok c = record { reply = c.pack.ensures ∙ ap (λ a. packed (reading_reply a)) c.in-Ok.ensures.0; letters = c.in-Ok.ensures.1 }

pub returns-in-Err : goal.returns-in-Err
returns-in-Err c = record { reply = c.refuse.ensures ∙ ap (λ a. packed (reading_reply a)) c.in-Err.ensures.0; letters = c.in-Err.ensures.1 }
