-- A text that is refused prints its refusal, and any other the list of its letters.
use Rattle.std.proofs.Common.{ℕ}
use Rattle.std.proofs.Math.ListN.{length-replicate}
use Rattle.text_printing.proofs.Answering.{reading-accepted, was_read, refusal-written, list_written}
use Rattle.text_printing.proofs.print_text.Goals as goal

pub list_read-requires-clause-read : goal.list_read-requires-clause-read
list_read-requires-clause-read c =
    was_read (reading-accepted c.args.text.now c.in-Ok.read.identifier c.in-Ok.read.letters c.in-Ok.ensures.0) _ _
    (length-replicate {A = ℕ} 1024 0) c.in-Ok.ensures.1

pub returns-in-Ok : goal.returns-in-Ok
returns-in-Ok c =
    let e = c.list_read.ensures in
    let w =
    list_written c.args.text.now c.args.out.now _ _ c.in-Ok.read.identifier c.in-Ok.read.letters (length-replicate {A = ℕ} 1024 0)
    c.in-Ok.ensures.0 c.in-Ok.ensures.1 e.written e.behind
    in record { written = w.0; behind = w.1 }

pub returns-in-Err : goal.returns-in-Err
returns-in-Err c =
    let e = c.put_line.ensures in
    let w = refusal-written c.args.text.now c.args.out.now _ c.in-Err.ensures.0 e.written e.behind in
    record { written = w.0; behind = w.1 }
